use Rattle.std.proofs.Common.{sym, subst}
use Rattle.retro_tree.specs.Overlay.{Overlays}
use Rattle.retro_tree.proofs.Results.{on_ok}
use Rattle.retro_tree.proofs.OverlayChanges.{overlays_set}
use Rattle.retro_tree.proofs.overlay.Overlay.insert.Goals as goal

pub returns-clause-overlays : goal.returns-clause-overlays
returns-clause-overlays c =
    on_ok c.set.result _ _ (λ is below now next h here there.
    subst (λ m. Overlays m below next) (sym is)
    (overlays_set c.args.self.now c.args.cell c.args.value below now next h here there)) c.set.ensures.ok
