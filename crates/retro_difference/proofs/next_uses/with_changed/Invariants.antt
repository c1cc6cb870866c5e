use Rattle.std.proofs.Common.{◌≡◌, ◌⊎◌, drop, true}
use Rattle.retro_tree.specs.Notes.{changes}
use Rattle.retro_tree.specs.declared.cell.Cell.{Cell}
use Rattle.retro_difference.specs.NextUses.{has_cell}
use Rattle.retro_difference.proofs.next_uses.with_changed.Given as goal

abbrev pub invariant-loop-note : goal.invariant-loop-note
invariant-loop-note l = record {
  kept : (c : Cell) → has_cell c l.fn.cells.items ≡ true → has_cell c l.all.items ≡ true;
  changed : (c : Cell) → changes l.notes c ≡ true
      → (has_cell c l.all.items ≡ true) ⊎ (changes (drop l.note-index l.notes) c ≡ true);
}
