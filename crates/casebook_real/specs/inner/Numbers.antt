-- Sets of numbers of lines.
use Rattle.std.specs.Prelude.{◌≡◌, ◌==◌, ℕ, Bool, List}
use Rattle.std.specs.BTreeMap.{is_at}
use Rattle.std.specs.List.{list_any}
use Rattle.std.specs.Ordering.{nat_cmp}
use Rattle.casebook_real.specs.declared.numbers.Numbers.{Numbers}

-- whether a set has a number
abbrev pub has_number : Numbers → ℕ → Bool
has_number set n = list_any (is_at (nat_cmp n)) set.numbers.keys

-- A set has exactly these numbers.
abbrev pub AreNumbers : List ℕ → Numbers → Type 0
AreNumbers numbers set = (n : ℕ) → has_number set n ≡ list_any (λ m. m == n) numbers
