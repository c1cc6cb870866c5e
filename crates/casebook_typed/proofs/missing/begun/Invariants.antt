-- The numbers of the steps so far, with those of the steps that are left, are those of all.
use Rattle.std.proofs.Common.{◌≡◌, ℕ, drop}
use Rattle.std.specs.List.{fold}
use Rattle.casebook_typed.specs.Missing.{begun_in, most_by}
use Rattle.casebook_typed.specs.inner.Places.{number_at}
use Rattle.casebook_typed.proofs.missing.begun.Given as goal

abbrev pub invariant-loop-step : goal.invariant-loop-step
invariant-loop-step l =
    (s : ℕ) → fold (most_by s) (number_at l.begun s) (drop l.step-index l.steps) ≡ begun_in s l.steps
