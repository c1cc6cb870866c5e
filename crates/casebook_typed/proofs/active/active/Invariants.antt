-- The lists have the lines so far.
use Rattle.std.proofs.Common.{◌≡◌, ◌<◌, ℕ, length, take}
use Rattle.casebook_typed.specs.Spans.{active_at}
use Rattle.casebook_typed.specs.inner.Lists.{list_at}
use Rattle.casebook_typed.proofs.active.active.Given as goal

abbrev pub invariant-loop-span : goal.invariant-loop-span
invariant-loop-span l = record {
  each : length l.lists.items ≡ length l.steps;
  so_far : (at : ℕ) → at < length l.steps → list_at l.lists.items at ≡ active_at l.steps (take l.span-index l.spans) at;
}
