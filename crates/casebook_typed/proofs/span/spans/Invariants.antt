-- The lines so far, and those of the steps that are left.
use Rattle.std.proofs.Common.{◌≡◌, ◌++◌, drop}
use Rattle.casebook_typed.specs.Spans.{spans_from, spans_of}
use Rattle.casebook_typed.proofs.span.spans.Given as goal

abbrev pub invariant-loop-at : goal.invariant-loop-at
invariant-loop-at l = l.spans.items ++ spans_from l.steps l.at (drop l.at l.steps) ≡ spans_of l.steps
