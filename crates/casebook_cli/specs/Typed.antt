-- Rows of lines that were typed between bounds.
use Rattle.std.specs.Prelude.{ℕ, ℤ, ◌&&◌, Bool, true, false, List, [], ◌∷◌}
use Rattle.std.specs.List.{filter}
use Rattle.casebook_view.specs.Rows.{RowValue}
use Rattle.casebook_request.specs.Bounds.{has_times, is_typed, typed_lines}
use Rattle.casebook_request.specs.declared.bounds.Bounds.{Bounds}

abbrev pub are_none : List (ℕ × ℤ) → Bool
are_none [] = true
are_none (t ∷ ts) = false

-- whether a bound is a time, and no line has one
abbrev pub lacks_times : Bounds → List (ℕ × ℤ) → Bool
lacks_times bounds times = has_times bounds && are_none times

abbrev pub row_of_number : (ℕ → Bool) → RowValue → Bool
row_of_number has row = has row.number

abbrev pub typed_if : Bool → Bounds → List (ℕ × ℤ) → List RowValue → List RowValue
typed_if true bounds times rows = filter (row_of_number (is_typed (typed_lines bounds times))) rows
typed_if _ bounds times rows = rows

-- the rows of lines that were typed between bounds: all, if no bound is a time
unfoldable pub typed : Bounds → List (ℕ × ℤ) → List RowValue → List RowValue
typed bounds times rows = typed_if (has_times bounds) bounds times rows
