-- `cut` (XCU cut).
use Rattle.std.specs.Prelude.{ℕ, ◌==◌, Bool, false, List, [], ◌∷◌, map, filter, filter_map, Option, Some, None}
use Rattle.std.specs.Prelude.{option_map, codes, if◌then◌else◌}
use Rattle.std.specs.List.{list_any, slice_split, join_with_byte, enumerate_from}
use Rattle.retro_path.specs.Ascii.{newline}
use Rattle.retro_text.specs.Ascii.{tab, letter}
use Rattle.retro_text.specs.Lines.{lines_in, text_of_lines}
use Rattle.retro_text.specs.Spans.{any_contains, spans_in}
use Rattle.retro_text.specs.Request.{Given, has_option, argument_of}
use Rattle.retro_text.specs.declared.span.Span.{Span}
use Rattle.retro_text.specs.declared.cut.Cut.{Cut}
use Rattle.retro_text.specs.declared.cut.Cut.TheVariants.{Bytes, Fields}

-- ---- what is cut, from the options

-- one byte, but no newline; a tab if there is no argument
abbrev pub delimiter_in : Option (List ℕ) → Option ℕ
delimiter_in None = Some tab
delimiter_in (Some (b ∷ [])) = if b == newline then None else Some b
delimiter_in (Some _) = None

abbrev pub cut_of_fields : Option (List Span) → Option ℕ → Bool → Option Cut
cut_of_fields (Some spans) (Some d) only = Some (Fields spans d only)
cut_of_fields _ _ only = None

-- `-b list`, or `-f list` with `-d` and `-s`
abbrev pub cut_by : Option (List ℕ) → Option (List ℕ) → Option (List ℕ) → Bool → Option Cut
cut_by (Some list) None None false = option_map Bytes (spans_in list)
cut_by None (Some list) d only = cut_of_fields (spans_in list) (delimiter_in d) only
cut_by _ _ _ _ = None

unfoldable pub cut_in : List Given → Option Cut
cut_in options =
    cut_by (argument_of (letter (codes "b")) options) (argument_of (letter (codes "f")) options)
    (argument_of (letter (codes "d")) options) (has_option (letter (codes "s")) options)

-- ---- what is left of a text

-- the items whose indices are in one of the spans, in their order; the first item has this index
unfoldable pub selected_from : {X : Type 0} → ℕ → List Span → List X → List X
selected_from index spans items =
    map (λ e. e.1) (filter (λ e. any_contains spans e.0) (enumerate_from index items))

abbrev pub selected_items : {X : Type 0} → List Span → List X → List X
selected_items spans items = selected_from 0 spans items

-- a field after a delimiter, or without one if it is the first
abbrev pub separated : ℕ → Bool → List ℕ → List ℕ
separated d is_first field = if is_first then field else d ∷ field

-- what is left of a line, or None if the line is dropped
unfoldable pub cut_line : Cut → List ℕ → Option (List ℕ)
cut_line (Bytes spans) line = Some (selected_items spans line)
cut_line (Fields spans d only) line =
    if list_any (λ b. b == d) line then Some (join_with_byte d (selected_items spans (slice_split (λ b. b == d) line)))
    else if only then None
    else Some line

abbrev pub cut_lines : Cut → List (List ℕ) → List (List ℕ)
cut_lines how lines = filter_map (cut_line how) lines

-- the text of what is left of a line
unfoldable pub line_text : Cut → List ℕ → List ℕ
line_text how line = text_of_lines (cut_lines how (line ∷ []))

unfoldable pub cut_text : Cut → List ℕ → List ℕ
cut_text how text = text_of_lines (cut_lines how (lines_in text))
