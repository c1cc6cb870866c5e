-- The marks of the steps so far, none of which contradicts earlier ones.
use Rattle.std.proofs.Common.{◌≡◌, take, drop}
use Rattle.casebook_typed.specs.Spans.{contradiction, contradiction_after}
use Rattle.casebook_typed.specs.inner.Places.{AreMarks}
use Rattle.casebook_typed.proofs.marks.Marks.of.Given as goal

abbrev pub invariant-loop-at : goal.invariant-loop-at
invariant-loop-at l = record {
  marks : AreMarks l.marks (take l.at l.steps);
  none : contradiction_after (take l.at l.steps) (drop l.at l.steps) ≡ contradiction l.steps;
}
