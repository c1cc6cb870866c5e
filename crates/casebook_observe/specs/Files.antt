-- The files of a spool.
use Rattle.std.specs.Prelude.{◌≡◌, ℕ, ◌⊎◌, ◌++◌, List, Option, Some, None, drop, length, nat_le}
use Rattle.std.specs.Prelude.{option_map, take}
use Rattle.std.specs.Prelude.{bytes_eq, unwrap_or, if◌then◌else◌}
use Rattle.casebook_spool.specs.declared.digest.Digest.{Digest}

-- `kept` are the bytes that are kept under a digest
pub record SpoolFiles : Type 0 where
  pub first : List ℕ
  pub listing : List ℕ
  pub lines : List ℕ
  pub kept : List ℕ → Option (List ℕ)

-- what the file `lines` has from a byte on, if it has so many
abbrev pub lines_from : ℕ → SpoolFiles → Option (List ℕ)
lines_from n files = if nat_le n (length files.lines) then Some (drop n files.lines) else None

abbrev pub with_first : List ℕ → SpoolFiles → SpoolFiles
with_first first files = record {
  first = first;
  listing = files.listing;
  lines = files.lines;
  kept = files.kept;
}

abbrev pub with_lines : List ℕ → SpoolFiles → SpoolFiles
with_lines lines files = record {
  first = files.first;
  listing = files.listing;
  lines = lines;
  kept = files.kept;
}

abbrev pub with_listing : List ℕ → SpoolFiles → SpoolFiles
with_listing listing files = record {
  first = files.first;
  listing = listing;
  lines = files.lines;
  kept = files.kept;
}

-- bytes kept under a digest, unless some are kept there already
abbrev pub with_kept : Digest → List ℕ → SpoolFiles → SpoolFiles
with_kept digest bytes files = record {
  first = files.first;
  listing = files.listing;
  lines = files.lines;
  kept = λ d. if bytes_eq d digest.bytes then Some (unwrap_or (files.kept d) bytes)
      else files.kept d;
}

-- a text in place of what the file `lines` has from a byte on
abbrev pub appended : ℕ → List ℕ → SpoolFiles → SpoolFiles
appended at text files = with_lines (take at files.lines ++ text) files

-- the spool is unchanged, or a front of a text stands there
abbrev pub IsCutOff : ℕ → List ℕ → Option SpoolFiles → Option SpoolFiles → Type 0
IsCutOff at text before now =
    (now ≡ before) ⊎ ((n : ℕ) × (now ≡ option_map (appended at (take n text)) before))

-- Only contents were kept: the files are the same, and what was kept before still is.
abbrev pub KeepsOnly : SpoolFiles → SpoolFiles → Type 0
KeepsOnly files now =
    (now.first ≡ files.first) × (now.listing ≡ files.listing) × (now.lines ≡ files.lines)
    × ((d bytes : List ℕ) → files.kept d ≡ Some bytes → now.kept d ≡ Some bytes)

abbrev pub OnlyKeeps : Option SpoolFiles → Option SpoolFiles → Type 0
OnlyKeeps None None = Unit {0}
OnlyKeeps (Some files) (Some now) = KeepsOnly files now
OnlyKeeps _ _ = ⊥
