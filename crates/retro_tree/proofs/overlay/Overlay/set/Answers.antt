use Rattle.std.proofs.Common.{ap, ◌∙◌}
use Rattle.std.specs.FinMap as map
use Rattle.retro_tree.specs.CellOrder.{cell_total, cell_exact}
use Rattle.retro_tree.proofs.MapLemmas.{made_insert}
use Rattle.retro_tree.proofs.overlay.Overlay.set.Goals as goal

pub returns-clause-ok : goal.returns-clause-ok
returns-clause-ok c =
    made_insert cell_total cell_exact c.self.inside.cells.entries c.insert.new.self.entries c.args.cell
    c.args.entry c.in_ok-insert.ensures.updates.0
    ∙ ap (λ m. map.insert m c.args.cell c.args.entry) c.self.view_is
