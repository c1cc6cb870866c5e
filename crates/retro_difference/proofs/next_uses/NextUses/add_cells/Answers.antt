use Rattle.std.specs.Vec.Iter.{into_iter_items}
use Rattle.retro_difference.proofs.CellLoops.{cell_done}
use Rattle.retro_difference.proofs.Entries.{adds_both}
use Rattle.retro_difference.proofs.next_uses.NextUses.add_cells.Goals as goal

pub loop-cell-preserved : goal.loop-cell-preserved
loop-cell-preserved c =
    let after = c.args.after in
    let lines = c.args.history.now.lines in
    record {
      adds = adds_both after lines c.args.self.now c.loop-cell.self c.add_next.new.self c.loop-cell.invariant.adds
          c.add_next.ensures.adds;
      next = λ d has.
          cell_done after lines c.loop-cell.self c.add_next.new.self c.add_next.ensures.adds d c.in-Some.cell
          (into_iter_items c.loop-cell.cell-iterator) (into_iter_items c.next.new.self) c.in-Some.ensures.steps.0
          c.in_ok-add_next.ensures.next (c.loop-cell.invariant.next d has);
    }
