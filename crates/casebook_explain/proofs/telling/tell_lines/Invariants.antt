-- The lines so far are told.
use Rattle.std.proofs.Common.{◌≡◌, ◌+◌, length}
use Rattle.casebook_explain.specs.inner.HasTold.{HasTold}
use Rattle.casebook_explain.proofs.telling.tell_lines.Given as goal

abbrev pub invariant-loop-line : goal.invariant-loop-line
invariant-loop-line l = record {
  count : l.place + length l.line-iterator.rest.items ≡ length l.fn.lines.items;
  told : HasTold l.first l.fn.lines.items l.line-iterator.rest.items l.place l.told.items l.state;
}
