use Rattle.std.proofs.Common.{subst, take, take_all}
use Rattle.retro_tree.specs.Notes.{after}
use Rattle.retro_tree.specs.Overlay.{Overlays}
use Rattle.casebook_view.proofs.Answering.{after_more, answered}
use Rattle.casebook_view.proofs.other_answer.answer_after.Goals as goal

pub loop-note-preserved : goal.loop-note-preserved
loop-note-preserved c =
    let i = c.loop-note.note-index in
    subst (λ t. Overlays c.add_note.new.overlay c.args.view.now t)
    (after_more c.args.notes.now i c.note-item.result c.args.view.now c.loop-note-test.true c.note-item.is)
    (c.in_ok-add_note.ensures c.args.view.now (after (take i c.args.notes.now) c.args.view.now) c.loop-note.invariant)

pub returns : goal.returns
returns c =
    answered c.answer.result c.loop-note.overlay c.args.view.now _ c.args.ask.now c.answer.ensures
    (subst (λ ns. Overlays c.loop-note.overlay c.args.view.now (after ns c.args.view.now))
    (take_all c.loop-note.note-index c.args.notes.now c.loop-note-test.false) c.loop-note.invariant)
