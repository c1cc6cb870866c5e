use Rattle.std.proofs.Common.{◌≡◌, ◌++◌, reverse}
use Rattle.std.specs.FinMap as map
use Rattle.retro_tree.specs.Commit.{put_cells}
use Rattle.retro_tree.specs.inner.CommitSteps.{removals, writes, undo_all, CanUndoAll}
use Rattle.retro_tree.proofs.commit.Commit.write_all.Given as goal

abbrev pub invariant-loop-cell : goal.invariant-loop-cell
invariant-loop-cell l = record {
  can : CanUndoAll (reverse l.self.undos.items) l.state;
  undone : undo_all (reverse l.self.undos.items) l.state ≡ l.fn.state;
  written : put_cells (writes l.cell-iterator) l.state ≡ put_cells (writes (map.entries l.fn.overlay)) l.fn.state;
  left : l.self.removals.items ++ removals l.cell-iterator ≡ removals (map.entries l.fn.overlay);
}
