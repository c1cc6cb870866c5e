use Rattle.std.proofs.Common.{ap, ◌∙◌}
use Rattle.std.specs.FinMap as map
use Rattle.retro_tree.specs.CellOrder.{cell_total, cell_exact}
use Rattle.retro_tree.proofs.MapLemmas.{made_insert}
use Rattle.retro_difference.proofs.write_map.WriteMap.insert.Goals as goal

pub returns : goal.returns
returns c = record {
  ok = made_insert cell_total cell_exact c.self.inside.writes.entries c.insert.new.self.entries c.args.cell c.args.write
      c.in_ok-insert.ensures.updates.0
      ∙ ap (λ m. map.insert m c.args.cell c.args.write) c.self.view_is;
}
