-- Which lines pass filters.
use Rattle.std.specs.Prelude.{ℕ, ◌==◌, Bool, true, false, ◌&&◌, ◌||◌, List, Option, Some, None}
use Rattle.std.specs.Prelude.{if◌then◌else◌, is_some, nat_le, option_map}
use Rattle.std.specs.List.{list_all, list_any}
use Rattle.std.specs.Option.{option_map_or}
use Rattle.regex.specs.Bytes.{matcher_pattern}
use Rattle.regex.specs.Patterns.{Re, find}
use Rattle.retro_tree.specs.Order.{path_eq}
use Rattle.retro_tree.specs.Path.{PathValue, below}
use Rattle.retro_tree.specs.declared.note.Note.{Note}
use Rattle.retro_keep.specs.declared.noted.Noted.{Noted}
use Rattle.casebook_profile.specs.declared.unknown_line.UnknownLine.{UnknownLine}
use Rattle.casebook_view.specs.NotePaths.{asked_path, write_in}
use Rattle.casebook_view.specs.Unknown.{is_unknown}
use Rattle.casebook_view.specs.declared.filters.Filters.{Filters as FiltersCode}
use Rattle.casebook_view.specs.declared.line_test.LineTest.{LineTest}
use Rattle.casebook_view.specs.declared.line_test.LineTest.TheVariants.{Sessions, From, To, Reads, Writes, Touches}
use Rattle.casebook_view.specs.declared.path_test.PathTest.{PathTest}

-- ---- paths

-- whether a path is the one that is named, or below it if that counts too
abbrev pub fits : PathTest → PathValue → Bool
fits test path = if test.below then is_some (below test.path path) else path_eq path test.path

-- whether a note asks about such a path, or changes what is there
abbrev pub reads : PathTest → Note → Bool
reads test note = option_map_or (fits test) (asked_path note) false

abbrev pub writes : PathTest → Note → Bool
writes test note = option_map_or (λ w. fits test w.path) (write_in note) false

-- ---- lines

abbrev pub passes_test : ℕ × Noted → LineTest → Bool
passes_test line (Sessions sessions) = list_any (λ session. session == line.1.sid) sessions.items
passes_test line (From n) = nat_le n line.0
passes_test line (To n) = nat_le line.0 n
passes_test line (Reads test) = list_any (reads test) line.1.notes
passes_test line (Writes test) = list_any (writes test) line.1.notes
passes_test line (Touches test) =
    list_any (reads test) line.1.notes || list_any (writes test) line.1.notes

-- whether a pattern is found in bytes, or true if there is no pattern
abbrev pub finds : Option Re → List ℕ → Bool
finds None bytes = true
finds (Some pattern) bytes = is_some (find pattern bytes 0)

-- filters, with the patterns that they look for
pub record FiltersValue : Type 0 where
  pub tests : List LineTest
  pub text : Option Re
  pub shown : Option Re
  pub is_unknown : Bool

abbrev pub filters_of : FiltersCode → FiltersValue
filters_of f = record {
  tests = f.tests.items;
  text = option_map matcher_pattern f.text;
  shown = option_map matcher_pattern f.shown;
  is_unknown = f.is_unknown;
}

-- whether the patterns are found in a line's text and in what it printed
abbrev pub finds_both : FiltersValue → Noted → Bool
finds_both f noted = finds f.text noted.text && finds f.shown noted.output

-- whether a line isn't understood, or true if lines that are understood pass too
abbrev pub passes_unknown : Bool → Bool → Bool
passes_unknown true unknown = unknown
passes_unknown false unknown = true

-- Whether a line passes all tests and both patterns are found, and it isn't understood if only such
-- lines pass.
abbrev pub passes_as : Bool → FiltersValue → ℕ × Noted → Bool
passes_as unknown f line =
    passes_unknown f.is_unknown unknown && (list_all (passes_test line) f.tests && finds_both f line.1)

-- the same, given the lines that aren't understood
abbrev pub passes : FiltersValue → List UnknownLine → ℕ × Noted → Bool
passes f unknown line = passes_as (is_unknown unknown line.0) f line
