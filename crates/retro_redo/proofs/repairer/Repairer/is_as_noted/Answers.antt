use Rattle.std.proofs.Common.{◌∙◌, ◌↔◌, IfOk, IsTrue, ap, subst, sym}
use Rattle.retro_tree.specs.Exact.{IsExact}
use Rattle.retro_tree.specs.Notes.{Holds}
use Rattle.retro_tree.specs.Overlay.{Fits, OverlayMap}
use Rattle.retro_tree.specs.State.{SameSessions}
use Rattle.retro_tree.specs.declared.state.State.{State}
use Rattle.std.specs.Option.{is_some}
use Rattle.retro_tree.proofs.ExactOverlays.{exact_fits}
use Rattle.retro_redo.specs.Progress.{edit_in}
use Rattle.retro_redo.proofs.AlteredPaths.{some_mapped}
use Rattle.retro_redo.proofs.EditCases.{none_there}
use Rattle.retro_redo.proofs.Keeping.{equiv_of, not_equiv}
use Rattle.retro_redo.proofs.NextLines.{pair_of}
use Rattle.retro_redo.proofs.repairer.Repairer.is_as_noted.Goals as goal

pub equiv-requires : goal.equiv-requires
equiv-requires c =
    subst Fits (sym c.overlay-overlay.ensures) (exact_fits c.self.inside.difference.overlay _ _ c.self.invariant.0.exact)

pub returns-then-is_some : goal.returns-then-is_some
returns-then-is_some c =
    not_equiv c.args.self.now (pair_of c.args.line) c.requires.next
    (sym (ap is_some c.requires.edit)
    ∙ sym (some_mapped _ c.args.line.edit) ∙ sym c.is_some.ensures ∙ c.if-is_some.true)

pub returns : goal.returns
returns c =
    equiv_of c.args.self.now _ c.self.inside.difference.overlay c.self.inside.lines.items c.equiv.result (pair_of c.args.line) _
    c.self.view_is c.self.invariant.0 c.recorded-recorded.ensures c.requires.next
    (none_there (edit_in c.args.self.now c.args.line.number)
    (sym (ap is_some c.requires.edit)
    ∙ sym (some_mapped _ c.args.line.edit) ∙ sym c.is_some.ensures ∙ c.if-is_some.false))
    (subst (λ (o : OverlayMap). IfOk c.equiv.result (λ b. (t : State) → IsExact o c.recorded-recorded.result t
    → SameSessions c.recorded-recorded.result t → IsTrue b ↔ Holds c.args.line.noted.now.notes t))
    c.overlay-overlay.ensures c.equiv.ensures)
