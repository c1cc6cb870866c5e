use Rattle.std.proofs.Common.{◌≤◌, arith, length, sym}
use Rattle.casebook_check.proofs.NoteLists.{longer_differs}
use Rattle.casebook_check.proofs.note_lists.first_difference.Goals.{else-loop-index-test, then-loop-index-test+else-index-two}
use Rattle.casebook_check.proofs.note_lists.first_difference.Goals as goal

pub returns-then-index-one : goal.returns-then-index-one
returns-then-index-one c =
    let ended : length c.args.two.now ≤ c.loop-index.index =
    elim c.loop-index-test.branch [
      | then-loop-index-test+else-index-two w ↦ w.if-index-two.false
      | else-loop-index-test w ↦ omega (arith, w.loop-index-test.false, c.if-index-one.true)
    ] in
    record {
      same = c.loop-index.invariant.same;
      otherwise = longer_differs c.args.one.now c.args.two.now c.loop-index.index c.if-index-one.true ended;
    }

pub returns-then-index-two-2 : goal.returns-then-index-two-2
returns-then-index-two-2 c = record {
  same = c.loop-index.invariant.same;
  otherwise =
      λ same. longer_differs c.args.two.now c.args.one.now c.loop-index.index c.if-index-two-2.true c.if-index-one.false (sym same);
}
