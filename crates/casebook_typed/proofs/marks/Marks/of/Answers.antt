use Rattle.std.proofs.Common.{◌∙◌, sym, refl}
use Rattle.casebook_typed.proofs.MarksSoFar.{found_here, next_marks, not_here}
use Rattle.casebook_typed.proofs.marks.Marks.of.Goals as goal

pub returns-then-contradict-clause-contradiction :
    goal.returns-then-contradict-clause-contradiction
returns-then-contradict-clause-contradiction c = λ at is.
    let found = found_here c.loop-at.marks c.args.steps.now c.loop-at.at _ _ c.loop-at-test.true refl c.loop-at.invariant.marks
    (sym c.contradict.ensures ∙ c.if-contradict.true) c.loop-at.invariant.none in
    cc

pub loop-at-preserved : goal.loop-at-preserved
loop-at-preserved c = record {
  marks = next_marks c.loop-at.marks c.mark.new.self c.args.steps.now c.loop-at.at _ _ c.loop-at-test.true refl
      (sym c.contradict.ensures ∙ c.if-contradict.false) c.in_ok-mark.ensures.begins c.in_ok-mark.ensures.ends c.loop-at.invariant.marks;
  none = not_here c.loop-at.marks c.args.steps.now c.loop-at.at _ _ c.loop-at-test.true refl c.loop-at.invariant.marks
      (sym c.contradict.ensures ∙ c.if-contradict.false) c.loop-at.invariant.none;
}
