-- `grep -F` (XCU grep).
use Rattle.std.specs.Prelude.{ℕ, ◌==◌, ◌&&◌, ◌||◌, Bool, true, false, not, nat_eq, List, [], ◌∷◌, ◌++◌, filter}
use Rattle.std.specs.Prelude.{flat_map, length}
use Rattle.std.specs.Prelude.{Option, Some, None, decimal, codes, if◌then◌else◌}
use Rattle.std.specs.List.{list_any, slice_split, starts_with}
use Rattle.retro_path.specs.Ascii.{newline, colon}
use Rattle.retro_path.specs.Order.{text_eq}
use Rattle.retro_text.specs.Ascii.{letter}
use Rattle.retro_text.specs.Request.{Given, RequestValue, has_option}
use Rattle.retro_text.specs.Lines.{lines_in}

-- a search: its patterns, and the options that change it
pub record SearchValue : Type 0 where
  pub patterns : List (List ℕ)
  pub inverted : Bool
  pub whole : Bool
  pub counted : Bool
  pub quiet : Bool

abbrev pub search_with : List (List ℕ) → Bool → Bool → Bool → Bool → SearchValue
search_with patterns inverted whole counted quiet = record {
  patterns = patterns;
  inverted = inverted;
  whole = whole;
  counted = counted;
  quiet = quiet;
}

-- newlines separate the patterns in their operand
abbrev pub search : List Given → List ℕ → SearchValue
search options operand =
    search_with (slice_split (λ b. b == newline) operand)
    (has_option (letter (codes "v")) options) (has_option (letter (codes "x")) options)
    (has_option (letter (codes "c")) options) (has_option (letter (codes "q")) options)

-- the search of `-F`, and the operands after the patterns
abbrev pub search_for : Bool → List Given → List (List ℕ) → Option (SearchValue × List (List ℕ))
search_for true options (patterns ∷ files) = Some (search options patterns, files)
search_for true options [] = None
search_for false options operands = None

unfoldable pub search_in : RequestValue → Option (SearchValue × List (List ℕ))
search_in r = search_for (has_option (letter (codes "F")) r.options) r.options r.operands

-- ---- which lines are selected

-- whether a pattern is part of a line
abbrev pub is_part : List ℕ → List ℕ → Bool
is_part pattern [] = starts_with nat_eq [] pattern
is_part pattern (b ∷ line) = starts_with nat_eq (b ∷ line) pattern || is_part pattern line

-- whether a pattern is part of a line, or under `-x` equals it
abbrev pub is_match : Bool → List ℕ → List ℕ → Bool
is_match whole line pattern = if whole then text_eq line pattern else is_part pattern line

-- whether one of the patterns matches a line
unfoldable pub matches : SearchValue → List ℕ → Bool
matches s line = list_any (is_match s.whole line) s.patterns

-- whether a line is selected: it matches, or under `-v` it doesn't
abbrev pub selects : SearchValue → List ℕ → Bool
selects s line = if s.inverted then not (matches s line) else matches s line

unfoldable pub selected_lines : SearchValue → List ℕ → List (List ℕ)
selected_lines s text = filter (selects s) (lines_in text)

-- ---- what is printed

-- what precedes each line of an operand's output, if there are at least two operands; `-` is
-- standard input
abbrev pub label_of : Bool → List ℕ → List ℕ
label_of several operand =
    if several then (if text_eq operand (codes "-") then codes "(standard input)" else operand) ++ colon ∷ [] else []

-- lines, each after a label
abbrev pub labelled_text : List ℕ → List (List ℕ) → List ℕ
labelled_text label lines = flat_map (λ line. label ++ line ++ newline ∷ []) lines

-- the output of an operand: its selected lines, or under `-c` their number, each after the label;
-- under `-q` nothing
unfoldable pub output_of : SearchValue → List ℕ → List (List ℕ) → List ℕ
output_of s label lines =
    if s.quiet then []
    else if s.counted then label ++ decimal (length lines) ++ newline ∷ []
    else labelled_text label lines

-- the status: 2 after a fault, but not under `-q` if a line was selected; else 0 if a line was
-- selected, and 1 if none was
abbrev pub search_status : Bool → Bool → Bool → ℕ
search_status quiet found fault = if fault && not (quiet && found) then 2 else if found then 0 else 1
