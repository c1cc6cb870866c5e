use Rattle.std.proofs.Common.{◌≡◌, drop}
use Rattle.retro_tree.specs.Commit.{put_cells}
use Rattle.retro_tree.proofs.commit.Commit.remove_all.Given as goal

abbrev pub invariant-loop-cell : goal.invariant-loop-cell
invariant-loop-cell l =
    put_cells (drop l.cell-index l.self.removals.items) l.state ≡ put_cells l.self.removals.items l.fn.state
