use Rattle.std.proofs.Common.{◌≡◌, ◌⊎◌, true}
use Rattle.std.specs.Vec.Iter.{into_iter_items}
use Rattle.retro_tree.specs.declared.cell.Cell.{Cell}
use Rattle.retro_difference.specs.NextUses.{AddsUses, HasNext, has_cell}
use Rattle.retro_difference.proofs.next_uses.NextUses.add_cells.Given as goal

abbrev pub invariant-loop-cell : goal.invariant-loop-cell
invariant-loop-cell l = record {
  adds : AddsUses l.after l.history.lines l.fn.self l.self;
  next : (c : Cell) → has_cell c l.fn.cells.items ≡ true
      → HasNext l.after l.history.lines c l.self ⊎ (has_cell c (into_iter_items l.cell-iterator) ≡ true);
}
