use Rattle.std.proofs.Common.{IfOk, IsTrue, List, subst, sym, ◌↔◌}
use Rattle.retro_tree.specs.Exact.{IsExact}
use Rattle.retro_tree.specs.Overlay.{Fits, OverlayMap}
use Rattle.retro_tree.specs.State.{SameSessions}
use Rattle.retro_tree.specs.declared.state.State.{State}
use Rattle.retro_tree.specs.Notes.{Holds}
use Rattle.retro_tree.specs.declared.note.Note.{Note}
use Rattle.retro_tree.proofs.ExactOverlays.{exact_fits}
use Rattle.retro_redo.specs.Progress.{repaired_now}
use Rattle.retro_redo.proofs.Keeping.{holds_of}
use Rattle.retro_redo.proofs.repairer.Repairer.fits.Goals as goal

pub equiv-requires : goal.equiv-requires
equiv-requires c =
    subst Fits (sym c.overlay-overlay.ensures) (exact_fits c.self.inside.difference.overlay _ _ c.self.invariant.0.exact)

pub returns : goal.returns
returns c =
    subst (λ (notes : List Note). IfOk c.equiv.result (λ b. IsTrue b ↔ Holds notes (repaired_now c.args.self.now)))
    c.notes.ensures.value
    (holds_of c.args.self.now _ c.self.inside.difference.overlay c.self.inside.lines.items c.equiv.result c.notes.result.now _
    c.self.view_is c.self.invariant.0 c.recorded.ensures
    (subst (λ (o : OverlayMap). IfOk c.equiv.result (λ b. (t : State) → IsExact o c.recorded.result t
    → SameSessions c.recorded.result t → IsTrue b ↔ Holds c.notes.result.now t)) c.overlay-overlay.ensures
    c.equiv.ensures))
