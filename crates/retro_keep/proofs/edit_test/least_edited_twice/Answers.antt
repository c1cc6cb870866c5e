use Rattle.std.proofs.Common.{◌∙◌, ◌≤◌, ◌<◌, ◌+◌, Some, ap, arith, drop, subst, sym, take}
use Rattle.std.proofs.lemmas.Bool.{not-false, not-true}
use Rattle.retro_keep.specs.Edit.{edit_of, edited_number, is_edit, least, sooner}
use Rattle.retro_keep.proofs.EditTests.{IsBound, bound_more, first_later, twice_from, twice_here}
use Rattle.retro_keep.proofs.EditTests.{twice_later}
use Rattle.retro_keep.proofs.edit_test.least_edited_twice.Goals as goal
use Rattle.retro_keep.proofs.edit_test.least_edited_twice.Goals.{else-from-bound+else-differs_from_first}
use Rattle.retro_keep.proofs.edit_test.least_edited_twice.Goals.{else-from-bound+then-differs_from_first}
use Rattle.retro_keep.proofs.edit_test.least_edited_twice.Goals.{then-from-bound}

pub loop-edit-preserved : goal.loop-edit-preserved
loop-edit-preserved c =
    let edits = c.args.edits.now in
    let i = c.loop-edit.edit-index in
    let d = c.edit-item.result in
    let lt = c.loop-edit-test.true in
    let is = c.edit-item.is in
    let old = c.loop-edit.found in
    let bound = c.loop-edit.bound in
    let total = least (twice_from edits edits) in
    let rest = least (twice_from edits (drop (i + 1) edits)) in
    let so_far = c.loop-edit.invariant.so_far in
    let bounded = c.loop-edit.invariant.bounded in
    let first = is_edit (edit_of edits (edited_number d)) d in
    elim c.if-from-bound.branch [
      | then-from-bound w ↦
          let above : bound ≤ edited_number d =
          omega (arith, w.if-from-bound.true, c.from.ensures, c.number-number.ensures) in
          let more : edited_number d < w.from-bound.result + 1 =
          omega (arith, w.from-bound.ensures, c.number-number.ensures) in
          record {
            so_far = ap (λ f. sooner f rest) w.found-is
                ∙ first_later edits i old total so_far d lt is (bounded (edited_number d) above);
            bounded = subst (λ b. IsBound b (take (i + 1) edits)) (sym w.bound-is)
                (bound_more edits i bound (w.from-bound.result + 1) d lt is bounded
                (omega (arith, above, more)) more);
          }
      | else-from-bound+then-differs_from_first w ↦
          let below : edited_number d < bound =
          omega (arith, w.if-from-bound.false, c.from.ensures, c.number-number.ensures) in
          record {
            so_far = ap (λ f. sooner f rest)
                (w.found-is ∙ w.sooner-found.ensures
                ∙ ap (λ n. sooner old (Some n)) c.number-number.ensures)
                ∙ twice_here edits i old total so_far d lt is
                (not-true first (sym w.differs_from_first.ensures ∙ w.if-differs_from_first.true));
            bounded = subst (λ b. IsBound b (take (i + 1) edits)) (sym w.bound-is)
                (bound_more edits i bound bound d lt is bounded (omega arith) below);
          }
      | else-from-bound+else-differs_from_first w ↦
          let below : edited_number d < bound =
          omega (arith, w.if-from-bound.false, c.from.ensures, c.number-number.ensures) in
          record {
            so_far = ap (λ f. sooner f rest) w.found-is
                ∙ twice_later edits i old total so_far d lt is
                (not-false first (sym w.differs_from_first.ensures
                ∙ w.if-differs_from_first.false));
            bounded = subst (λ b. IsBound b (take (i + 1) edits)) (sym w.bound-is)
                (bound_more edits i bound bound d lt is bounded (omega arith) below);
          }
    ]
