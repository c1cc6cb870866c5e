-- The versions of each cell as the history keeps them: with the whole value of each version, and
-- with the checkpoint that it can be rolled back to.
use Rattle.std.specs.Prelude.{ℕ, ◌+◌, ◌≤◌, ◌==◌, nat_lt, Bool, if◌then◌else◌, List, [], ◌∷◌, ◌++◌, Option, Some}
use Rattle.std.specs.Prelude.{None, map}
use Rattle.std.specs.List.{filter}
use Rattle.retro_tree.specs.Change.{cell_of, value_grown, written}
use Rattle.retro_tree.specs.Notes.{cell_eq, changes, effects}
use Rattle.retro_tree.specs.declared.cell.Cell.{Cell}
use Rattle.retro_tree.specs.declared.value.Value.{Value}
use Rattle.retro_tree.specs.declared.change.Change.{Change}
use Rattle.retro_tree.specs.declared.change.Change.TheVariants.{Put, Grow, SetVar, SetCwd, SetStatus}
use Rattle.retro_tree.specs.declared.note.Note.{Note}
use Rattle.retro_tree.specs.declared.note.Note.TheVariants.{Asked, Made}
use Rattle.retro_keep.specs.declared.noted.Noted.{Noted}
use Rattle.retro_history.specs.Versions.{growth_limit, is_growth}

-- a version: its number, the number of its checkpoint, how many growths follow the checkpoint up to
-- this version, and the value
pub record VersionValue : Type 0 where
  pub number : ℕ
  pub checkpoint : ℕ
  pub growths : ℕ
  pub value : Value

-- the versions of a cell: those before the last one, and the last one
pub record TrackValue : Type 0 where
  pub earlier : List VersionValue
  pub last : VersionValue

-- ---- how versions are made

-- a checkpoint
abbrev pub whole_version : ℕ → Value → VersionValue
whole_version n v = record { number = n; checkpoint = n; growths = 0; value = v }

-- the version after one, of a line that grows it, before the line's bytes are appended
abbrev pub next_version : ℕ → VersionValue → VersionValue
next_version n v = record {
  number = n;
  checkpoint = if nat_lt v.growths growth_limit then v.checkpoint else n;
  growths = if nat_lt v.growths growth_limit then v.growths + 1 else 0;
  value = v.value;
}

-- the version of line n, if the line grows the cell: the last version if it is the line's already,
-- and otherwise the next one
abbrev pub version_of_line : ℕ → VersionValue → VersionValue
version_of_line n v = if v.number == n then v else next_version n v

-- a version with bytes appended
abbrev pub version_grown : List ℕ → VersionValue → VersionValue
version_grown bytes v = record v { value = value_grown bytes v.value }

-- the last version after a change by line n
abbrev pub version_changed : ℕ → Change → VersionValue → VersionValue
version_changed n (Grow p bytes) v = version_grown bytes (version_of_line n v)
version_changed n (Put p node) v = whole_version n (written (Put p node) v.value)
version_changed n (SetVar sid name text) v = whole_version n (written (SetVar sid name text) v.value)
version_changed n (SetCwd sid p) v = whole_version n (written (SetCwd sid p) v.value)
version_changed n (SetStatus sid status) v = whole_version n (written (SetStatus sid status) v.value)

-- the versions before the one of line n
abbrev pub before_line : ℕ → TrackValue → List VersionValue
before_line n t = if t.last.number == n then t.earlier else t.earlier ++ t.last ∷ []

-- the versions after a change by line n
abbrev pub track_changed : ℕ → Change → TrackValue → TrackValue
track_changed n change t = record { earlier = before_line n t; last = version_changed n change t.last }

-- the versions after changes by line n
abbrev pub track_by : ℕ → List Change → TrackValue → TrackValue
track_by n [] t = t
track_by n (change ∷ changes) t = track_by n changes (track_changed n change t)

-- ---- the versions of one cell

-- the versions of a cell after a change by line n, which may write another cell
abbrev pub track_after : Cell → ℕ → Change → TrackValue → TrackValue
track_after c n change t = if cell_eq (cell_of change) c then track_changed n change t else t

-- the versions of a cell after the notes of line n
abbrev pub track_noted : Cell → ℕ → List Note → TrackValue → TrackValue
track_noted c n [] t = t
track_noted c n (Asked a r ∷ notes) t = track_noted c n notes t
track_noted c n (Made change ∷ notes) t = track_noted c n notes (track_after c n change t)

-- the versions of a cell after lines
abbrev pub tracked : Cell → List (ℕ × Noted) → TrackValue → TrackValue
tracked c [] t = t
tracked c (l ∷ lines) t = tracked c lines (track_noted c l.0 l.1.notes t)

-- the first version alone
abbrev pub new_track : Value → TrackValue
new_track v = record { earlier = []; last = whole_version 0 v }

-- ---- the version after lines, by what each line does as a whole

-- the version that the notes of line n make after one, if they change the cell
abbrev pub version_made : Cell → ℕ → List Note → VersionValue → VersionValue
version_made c n notes v =
    if is_growth v.growths notes c
    then record {
      number = n;
      checkpoint = v.checkpoint;
      growths = v.growths + 1;
      value = effects notes c v.value;
    }
    else whole_version n (effects notes c v.value)

-- the version of a cell after a line, by the version before it
abbrev pub version_after : Cell → ℕ × Noted → VersionValue → VersionValue
version_after c l v = if changes l.1.notes c then version_made c l.0 l.1.notes v else v

-- the version of a cell after lines
abbrev pub current : Cell → List (ℕ × Noted) → VersionValue → VersionValue
current c [] v = v
current c (l ∷ lines) v = current c lines (version_after c l v)

-- all versions of a cell, from one on, in order
abbrev pub version_chain : Cell → List (ℕ × Noted) → VersionValue → List VersionValue
version_chain c [] v = v ∷ []
version_chain c (l ∷ lines) v =
    (if changes l.1.notes c then v ∷ [] else []) ++ version_chain c lines (version_after c l v)

-- ---- look-ups

abbrev pub all_versions : TrackValue → List VersionValue
all_versions t = t.earlier ++ t.last ∷ []

-- the last version with a number below n, or else what was found before
abbrev pub last_below : ℕ → Option VersionValue → List VersionValue → Option VersionValue
last_below n found [] = found
last_below n found (v ∷ vs) = last_below n (if nat_lt v.number n then Some v else found) vs

-- the last version below n
abbrev pub version_below : ℕ → TrackValue → Option VersionValue
version_below n t = last_below n None (all_versions t)

-- the numbers rise from one version to the next, from a number on
abbrev pub RiseFrom : ℕ → List VersionValue → Type 0
RiseFrom n [] = Unit {0}
RiseFrom n (v ∷ vs) = (n ≤ v.number) × RiseFrom v.number vs

abbrev pub is_whole_version : VersionValue → Bool
is_whole_version v = v.growths == 0

-- the numbers of the checkpoints
abbrev pub checkpoint_numbers : List VersionValue → List ℕ
checkpoint_numbers vs = map (λ v. v.number) (filter is_whole_version vs)
