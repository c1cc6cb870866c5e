-- Sets of numbers, as lists of their keys.
use Rattle.std.specs.Prelude.{ℕ, Bool, List}
use Rattle.std.specs.List.{list_any}
use Rattle.std.specs.BTreeMap.{is_at}
use Rattle.std.specs.Ordering.{nat_cmp}

-- whether a number is among some
abbrev pub has_number : ℕ → List ℕ → Bool
has_number n numbers = list_any (is_at (nat_cmp n)) numbers
