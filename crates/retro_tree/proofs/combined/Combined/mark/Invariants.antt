use Rattle.std.proofs.Common.{◌≡◌, length}
use Rattle.std.specs.FinMap as finmap
use Rattle.retro_tree.specs.inner.Marks.{overlay_from, mark_entries}
use Rattle.retro_tree.specs.declared.cell.Cell.TheVariants as cells
use Rattle.retro_tree.proofs.Skips.{IsRest}
use Rattle.retro_tree.proofs.combined.Combined.mark.Given as goal

abbrev pub invariant-loop-cell : goal.invariant-loop-cell
invariant-loop-cell g l = record {
  rest : IsRest (finmap.entries l.self.overlay.now) l.rest;
  marks : mark_entries l.path l.rest l.tree
      ≡ mark_entries l.path (overlay_from (cells.At l.path) l.self.overlay.now) l.fn.tree;
}

abbrev pub decreases-loop-cell : goal.decreases-loop-cell
decreases-loop-cell g l = length l.rest
