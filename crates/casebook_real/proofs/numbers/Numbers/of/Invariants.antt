-- The numbers so far, and those that are left.
use Rattle.std.proofs.Common.{◌≡◌, ◌==◌, ◌||◌, ℕ, drop}
use Rattle.std.specs.List.{list_any}
use Rattle.casebook_real.specs.inner.Numbers.{has_number}
use Rattle.casebook_real.proofs.numbers.Numbers.of.Given as goal

abbrev pub invariant-loop-number : goal.invariant-loop-number
invariant-loop-number l =
    (n : ℕ) → (has_number l.set n || list_any (λ m. m == n) (drop l.number-index l.numbers))
    ≡ list_any (λ m. m == n) l.numbers
