use Rattle.std.proofs.Common.{ap, ◌∙◌, not}
use Rattle.retro_redo.specs.Moments.{compensation_view}
use Rattle.casebook_cause.specs.Compensations.{is_leak}
use Rattle.casebook_cause.proofs.Parts.{leak_found, view_passed, view_taken}
use Rattle.casebook_cause.proofs.compensations.tellings.Goals.{then-not-contains+in_ok-push, else-not-contains}
use Rattle.casebook_cause.proofs.compensations.tellings.Goals as goal

pub loop-compensation-preserved : goal.loop-compensation-preserved
loop-compensation-preserved c =
    elim c.if-not-contains.branch [
      | then-not-contains+in_ok-push w ↦
          view_taken compensation_view (λ x. not (is_leak c.args.repair.now x)) c.loop-compensation.found.items c.deref-compensation-items.result.now
          c.loop-compensation.compensation-index _ _ c.loop-compensation-test.true c.loop-compensation.invariant
          c.if-not-contains.found.items
          (ap not (leak_found _ c.args.repair.now c.deref.result.now c.in_ok-cancelled.cancelled.keys
          c.deref-compensation-items.result.now c.loop-compensation.compensation-index c.deref.ensures.value
          c.in_ok-cancelled.ensures w.if-not-contains.ensures))
          (ap (λ v. v.items) w.found-is ∙ w.in_ok-push.ensures.items)
      | else-not-contains w ↦
          view_passed compensation_view (λ x. not (is_leak c.args.repair.now x)) c.loop-compensation.found.items c.deref-compensation-items.result.now
          c.loop-compensation.compensation-index _ _ c.loop-compensation-test.true c.loop-compensation.invariant
          c.if-not-contains.found.items
          (ap not (leak_found _ c.args.repair.now c.deref.result.now c.in_ok-cancelled.cancelled.keys
          c.deref-compensation-items.result.now c.loop-compensation.compensation-index c.deref.ensures.value
          c.in_ok-cancelled.ensures w.if-not-contains.ensures))
          (ap (λ v. v.items) w.found-is)
    ]
