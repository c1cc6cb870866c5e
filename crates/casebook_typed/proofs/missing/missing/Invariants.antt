-- What is missing so far, without the lines that are left, is what is missing of all.
use Rattle.std.proofs.Common.{◌≡◌, ◌-◌, ℕ, drop}
use Rattle.casebook_typed.specs.Missing.{begun_in, recorded_in}
use Rattle.casebook_typed.specs.inner.Places.{number_at}
use Rattle.casebook_typed.proofs.missing.missing.Given as goal

abbrev pub invariant-loop-span : goal.invariant-loop-span
invariant-loop-span l =
    (s : ℕ) → number_at l.missing s - recorded_in s (drop l.span-index l.spans)
    ≡ begun_in s l.fn.steps - recorded_in s l.spans
