use Rattle.std.proofs.Common.{ap, sym, ◌∙◌}
use Rattle.std.specs.FinMap as map
use Rattle.retro_tree.specs.CellOrder.{cell_total, cell_exact}
use Rattle.retro_tree.proofs.MapLemmas.{made_entries}
use Rattle.retro_difference.proofs.write_map.WriteMap.into_entries.Goals as goal

pub returns : goal.returns
returns c =
    let given = c.into_iter.ensures.into_iter_gives in
    given.0
    ∙ sym (made_entries cell_total cell_exact c.self.inside.writes.entries given.5)
    ∙ ap map.entries c.self.view_is
