use Rattle.std.proofs.Common.{ap, sym, ◌∙◌}
use Rattle.std.specs.FinMap as map
use Rattle.retro_tree.specs.CellOrder.{cell_total, cell_exact}
use Rattle.retro_tree.proofs.MapLemmas.{made_entries}
use Rattle.retro_history.proofs.line_cells.LineCells.iter.Goals as goal

pub returns : goal.returns
returns c = c.iter.ensures.rest
    ∙ sym (made_entries cell_total cell_exact c.self.inside.uses.entries c.iter.ensures.ordered)
    ∙ ap map.entries c.self.view_is
