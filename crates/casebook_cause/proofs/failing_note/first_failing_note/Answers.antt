use Rattle.std.proofs.Common.{◌+◌, subst, sym}
use Rattle.retro_tree.specs.Overlay.{Overlays}
use Rattle.retro_tree.specs.Commit.{committed}
use Rattle.casebook_cause.proofs.Failing.{IsHeld, at_index, differs_by, fails_at, held_change, held_query, made_in}
use Rattle.casebook_cause.proofs.Failing.{made_over, some_fails}
use Rattle.casebook_cause.proofs.failing_note.first_failing_note.Goals as goal
use Rattle.casebook_cause.proofs.failing_note.first_failing_note.Goals.{in-Asked+in_ok-has_answer-in-Asked+else-not-branch}
use Rattle.casebook_cause.proofs.failing_note.first_failing_note.Goals.{in-Made+in_ok-copy-in-Made+in_ok-apply-in-Made}

pub returns-then-not-branch-clause-none : goal.returns-then-not-branch-clause-none
returns-then-not-branch-clause-none g c =
    let s = g.V.View.state c.args.view.now in
    let now = committed c.loop-index.overlay s in
    let here = at_index c.loop-index.index c.args.notes.now c.as_slice-note-items.result.now c.note-item.result _
    c.as_slice-note-items.ensures c.loop-index-test.true c.note-item.is c.in-Asked.is in
    some_fails c.loop-index.index c.args.notes.now s
    (fails_at c.loop-index.index c.args.notes.now s now _ _ _ here
    (differs_by c.in_ok-has_answer-in-Asked.field-0 _
    (c.in_ok-has_answer-in-Asked.ensures now c.loop-index.invariant.overlays) c.if-not-branch.true)
    c.loop-index.invariant.held)

pub loop-index-preserved : goal.loop-index-preserved
loop-index-preserved g c =
    let s = g.V.View.state c.args.view.now in
    let old = c.loop-index.overlay in
    let now = committed c.loop-index.overlay s in
    elim c.match-note.branch [
      | in-Asked+in_ok-has_answer-in-Asked+else-not-branch w ↦
          let here = at_index c.loop-index.index c.args.notes.now c.as_slice-note-items.result.now c.note-item.result _
          c.as_slice-note-items.ensures c.loop-index-test.true c.note-item.is w.in-Asked.is in
          record {
            overlays = subst (λ o. Overlays o s (committed o s)) (sym w.overlay-is) c.loop-index.invariant.overlays;
            held = subst (λ o. IsHeld (c.loop-index.index + 1) c.args.notes.now s (committed o s)) (sym w.overlay-is)
                (held_query c.loop-index.index c.args.notes.now s now _ _ _ here
                ((w.in_ok-has_answer-in-Asked.ensures now c.loop-index.invariant.overlays).0 w.if-not-branch.false)
                c.loop-index.invariant.held);
          }
      | in-Made+in_ok-copy-in-Made+in_ok-apply-in-Made w ↦
          let here = at_index c.loop-index.index c.args.notes.now c.as_slice-note-items.result.now c.note-item.result _
          c.as_slice-note-items.ensures c.loop-index-test.true c.note-item.is w.in-Made.is in
          let e = made_in s old w.apply.new.self _ _ w.in_ok-copy-in-Made.ensures
          w.in_ok-apply-in-Made.ensures.committed c.loop-index.invariant.overlays in
          record {
            overlays = subst (λ o. Overlays o s (committed o s)) (sym w.overlay-is)
                (made_over s old w.apply.new.self _ _ w.in_ok-copy-in-Made.ensures w.in_ok-apply-in-Made.ensures.ok
                w.in_ok-apply-in-Made.ensures.committed c.loop-index.invariant.overlays);
            held = subst (λ o. IsHeld (c.loop-index.index + 1) c.args.notes.now s (committed o s)) (sym w.overlay-is)
                (subst (λ t. IsHeld (c.loop-index.index + 1) c.args.notes.now s t) (sym e)
                (held_change c.loop-index.index c.args.notes.now s now _ _ here c.loop-index.invariant.held));
          }
    ]
