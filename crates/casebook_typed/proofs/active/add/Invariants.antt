-- The line is in the lists of the observations so far at which it is active.
use Rattle.std.proofs.Common.{◌≡◌, ◌≤◌, ◌<◌, ◌&&◌, ◌++◌, ℕ, drop, length, nat_lt, take}
use Rattle.std.specs.List.{list_any}
use Rattle.casebook_typed.specs.Spans.{is_active, is_start_from}
use Rattle.casebook_typed.specs.inner.Lists.{list_at, span_if}
use Rattle.casebook_typed.proofs.active.add.Given as goal

abbrev pub invariant-loop-at : goal.invariant-loop-at
invariant-loop-at l = record {
  since : l.span.since ≤ l.at;
  each : length l.lists ≡ length l.steps;
  starts : l.starts ≡ list_any (is_start_from l.span.session) (drop l.span.since (take l.at l.steps));
  so_far : (k : ℕ) → k < length l.steps → list_at l.lists k
      ≡ list_at l.initial.lists k ++ span_if l.span (nat_lt k l.at && is_active l.steps k l.span);
}
