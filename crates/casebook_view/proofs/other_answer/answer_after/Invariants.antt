-- The changes so far are in the overlay.
use Rattle.std.proofs.Common.{take}
use Rattle.retro_tree.specs.Notes.{after}
use Rattle.retro_tree.specs.Overlay.{Overlays}
use Rattle.casebook_view.proofs.other_answer.answer_after.Given as goal

abbrev pub invariant-loop-note : goal.invariant-loop-note
invariant-loop-note l = Overlays l.overlay l.view (after (take l.note-index l.notes) l.view)
