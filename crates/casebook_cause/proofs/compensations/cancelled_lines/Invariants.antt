-- The numbers so far, and those of the lines that are left.
use Rattle.std.proofs.Common.{◌≡◌, ◌||◌, ℕ, drop}
use Rattle.casebook_cause.specs.Compensations.{is_cancelled}
use Rattle.casebook_cause.specs.inner.Numbers.{has_number}
use Rattle.casebook_cause.proofs.compensations.cancelled_lines.Given as goal

abbrev pub invariant-loop-line : goal.invariant-loop-line
invariant-loop-line l =
    (n : ℕ) → (has_number n l.numbers.keys || is_cancelled (drop l.line-index l.lines) n)
    ≡ is_cancelled l.lines n
