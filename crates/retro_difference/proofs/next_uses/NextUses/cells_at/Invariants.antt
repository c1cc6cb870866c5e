use Rattle.std.proofs.Common.{◌≡◌, ◌⊎◌, true}
use Rattle.std.specs.FinMap as map
use Rattle.retro_tree.specs.declared.cell.Cell.{Cell}
use Rattle.retro_difference.specs.NextUses.{AreSorted, has_cell, has_use}
use Rattle.retro_difference.proofs.next_uses.NextUses.cells_at.Given as goal

abbrev pub invariant-loop-used : goal.invariant-loop-used
invariant-loop-used l = record {
  sorted : AreSorted l.used-iterator;
  cells : (c : Cell) → has_use l.number c l.self ≡ true → map.contains_key l.overlay c ≡ true
      → (has_cell c l.cells.items ≡ true) ⊎ (has_use l.number c l.used-iterator ≡ true);
}
