use Rattle.std.proofs.Common.{ap, sym, subst, ◌∙◌}
use Rattle.std.specs.FinMap as map
use Rattle.retro_tree.specs.CellOrder.{cell_total, cell_exact}
use Rattle.retro_tree.specs.Overlay.{Overlays, Fits, AllValues}
use Rattle.retro_tree.proofs.MapLemmas.{made_remove}
use Rattle.retro_tree.proofs.Fitting.{fits_removed}
use Rattle.retro_tree.proofs.ValueEntries.{values_removed}
use Rattle.retro_tree.proofs.OverlayChanges.{overlays_removed}
use Rattle.retro_tree.proofs.overlay.Overlay.remove.Goals as goal

pub returns-clause-value : goal.returns-clause-value
returns-clause-value c =
    made_remove cell_total cell_exact c.self.inside.cells.entries c.remove.new.self.entries c.args.cell.now
    c.remove.ensures.updates.0
    ∙ ap (λ m. map.remove m c.args.cell.now) c.self.view_is

pub returns-clause-overlays : goal.returns-clause-overlays
returns-clause-overlays c below now next h here there =
    subst (λ m. Overlays m below next) (sym (returns-clause-value c))
    (overlays_removed c.args.self.now c.args.cell.now below now next h here there)

pub returns-clause-fits : goal.returns-clause-fits
returns-clause-fits c fit = subst Fits (sym (returns-clause-value c)) (fits_removed c.args.self.now c.args.cell.now fit)

pub returns-clause-values : goal.returns-clause-values
returns-clause-values c all =
    subst AllValues (sym (returns-clause-value c)) (values_removed c.args.self.now c.args.cell.now all)
