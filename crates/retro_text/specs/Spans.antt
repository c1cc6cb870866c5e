-- Lists of spans (XCU cut, OPTIONS). A list writes positions, counted from 1. A span has indices,
-- counted from 0.
use Rattle.std.specs.Prelude.{ℕ, ◌==◌, ◌+◌, ◌-◌, ◌&&◌, ◌||◌, Bool, true, nat_le, List, [], ◌∷◌, ◌++◌, length, take}
use Rattle.std.specs.Prelude.{drop, position}
use Rattle.std.specs.Prelude.{Option, Some, None, option_map, option_and_then, if◌then◌else◌}
use Rattle.std.specs.List.{list_any, slice_split}
use Rattle.retro_text.specs.Ascii.{tab, space, comma, dash}
use Rattle.retro_text.specs.Numbers.{number_in}
use Rattle.retro_text.specs.declared.span.Span.{Span}

abbrev pub span : ℕ → Option ℕ → Span
span first last = record { first = first; last = last }

abbrev pub is_up_to : Option ℕ → ℕ → Bool
is_up_to None index = true
is_up_to (Some last) index = nat_le index last

-- whether a span has an index
abbrev pub contains : Span → ℕ → Bool
contains s index = nat_le s.first index && is_up_to s.last index

-- whether one of the spans has an index
unfoldable pub any_contains : List Span → ℕ → Bool
any_contains spans index = list_any (λ s. contains s index) spans

-- ---- how spans are written

-- the greatest number of digits in a position
abbrev pub max_digits : ℕ
max_digits = 9

-- the index of the position with this number, which is at least 1
abbrev pub index_at : ℕ → Option ℕ
index_at number = if nat_le 1 number then Some (number - 1) else None

-- the index of a position: a number of one to nine digits, at least 1
unfoldable pub index_in : List ℕ → Option ℕ
index_in text =
    if nat_le (length text) max_digits then option_and_then index_at (number_in text) else None

abbrev pub ordered : ℕ → ℕ → Option Span
ordered first last = if nat_le first last then Some (span first (Some last)) else None

-- `N-M`, `N-` or `-M`, from the texts before and after the dash
unfoldable pub span_between : List ℕ → List ℕ → Option Span
span_between [] [] = None
span_between [] (c ∷ to) = option_map (λ m. span 0 (Some m)) (index_in (c ∷ to))
span_between (b ∷ from) [] = option_map (λ n. span n None) (index_in (b ∷ from))
span_between (b ∷ from) (c ∷ to) =
    option_and_then (λ n. option_and_then (ordered n) (index_in (c ∷ to))) (index_in (b ∷ from))

abbrev pub span_at : Option ℕ → List ℕ → Option Span
span_at None text = option_map (λ n. span n (Some n)) (index_in text)
span_at (Some index) text = span_between (take index text) (drop (index + 1) text)

-- `N`, `N-M`, `N-` or `-M`
unfoldable pub span_in : List ℕ → Option Span
span_in text = span_at (position (λ b. b == dash) text) text

-- a comma, a space or a tab
abbrev pub is_separator : ℕ → Bool
is_separator b = b == comma || (b == space || b == tab)

abbrev pub add_span : List Span → Option Span → (List Span → Option (List Span)) → Option (List Span)
add_span spans None next = None
add_span spans (Some s) next = next (spans ++ s ∷ [])

-- the spans so far and those of the texts, or None if a text is no span
abbrev pub spans_after : List Span → List (List ℕ) → Option (List Span)
spans_after spans [] = Some spans
spans_after spans (text ∷ texts) = add_span spans (span_in text) (λ all. spans_after all texts)

-- the spans of a list, each separated from the next by one separator
unfoldable pub spans_in : List ℕ → Option (List Span)
spans_in list = spans_after [] (slice_split is_separator list)
