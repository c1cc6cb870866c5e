-- The lists so far are empty, one for each step.
use Rattle.std.proofs.Common.{◌≡◌, ℕ, [], length}
use Rattle.casebook_typed.specs.inner.Lists.{list_at}
use Rattle.casebook_typed.proofs.active.empty_lists.Given as goal

abbrev pub invariant-loop-step : goal.invariant-loop-step
invariant-loop-step l = record {
  each : length l.lists.items ≡ l._step-index;
  empty : (k : ℕ) → list_at l.lists.items k ≡ [];
}
