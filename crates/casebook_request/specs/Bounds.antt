-- Between which bounds the lines are that are shown: numbers of lines, or times.
use Rattle.std.specs.Prelude.{ℕ, ℤ, int_le, Bool, true, false, ◌&&◌, ◌||◌, List, fold}
use Rattle.std.specs.Prelude.{Option, Some, None, is_some, option_and_then, option_map, unwrap_or}
use Rattle.std.specs.FinMap as map
use Rattle.std.specs.FinMap.{FinMap}
use Rattle.std.specs.Ordering.{nat_cmp}
use Rattle.casebook_about.specs.Time.{last_second_in, second_in}
use Rattle.retro_text.specs.Numbers.{number_in}
use Rattle.casebook_request.specs.declared.bound.Bound.{Bound}
use Rattle.casebook_request.specs.declared.bound.Bound.TheVariants.{Line, Second}
use Rattle.casebook_request.specs.declared.bounds.Bounds.{Bounds}

abbrev pub line_of : Bound → Option ℕ
line_of (Line number) = Some number
line_of (Second second) = None

abbrev pub second_of : Bound → Option ℤ
second_of (Line number) = None
second_of (Second second) = Some second

-- a text that is no number may be a time
abbrev pub number_or_time : Option ℕ → Option ℤ → Option Bound
number_or_time (Some number) second = Some (Line number)
number_or_time None second = option_map Second second

-- the bound that a text is: the number of a line, or a time
unfoldable pub bound_in : List ℕ → Option Bound
bound_in text = number_or_time (number_in text) (second_in text)

-- the same as the last bound: of a time its last second
unfoldable pub last_bound_in : List ℕ → Option Bound
last_bound_in text = number_or_time (number_in text) (last_second_in text)

-- ---- times of lines

abbrev pub is_from : Option ℤ → ℤ → Bool
is_from None second = true
is_from (Some first) second = int_le first second

abbrev pub is_to : Option ℤ → ℤ → Bool
is_to None second = true
is_to (Some last) second = int_le second last

-- whether a second is between the times among two bounds
abbrev pub is_between : Bounds → ℤ → Bool
is_between bounds second =
    is_from (option_and_then second_of bounds.from) second && is_to (option_and_then second_of bounds.to) second

-- whether one of the bounds is a time
abbrev pub has_times : Bounds → Bool
has_times bounds =
    is_some (option_and_then second_of bounds.from) || is_some (option_and_then second_of bounds.to)

-- whether lines were typed between bounds, by their numbers: of several times of a line the last
-- one counts
abbrev pub with_time : Bounds → FinMap nat_cmp Bool → ℕ × ℤ → FinMap nat_cmp Bool
with_time bounds lines time = map.insert lines time.0 (is_between bounds time.1)

abbrev pub typed_lines : Bounds → List (ℕ × ℤ) → FinMap nat_cmp Bool
typed_lines bounds times = fold (with_time bounds) map.empty times

-- whether the line with a number has a time, and was typed between the bounds
abbrev pub is_typed : FinMap nat_cmp Bool → ℕ → Bool
is_typed lines number = unwrap_or (map.get lines number) false
