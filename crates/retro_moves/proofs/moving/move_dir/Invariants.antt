use Rattle.std.proofs.Common.{vec_len}
use Rattle.retro_local.specs.Runs.{Relates, ExtendsTree}
use Rattle.retro_moves.specs.inner.Removal.{OfTrees}
use Rattle.retro_moves.specs.inner.Move.{IsMoving}
use Rattle.retro_moves.proofs.MoveTrails.{Removed}
use Rattle.retro_moves.proofs.moving.move_dir.Given as goal

abbrev pub invariant-loop-path : goal.invariant-loop-path
invariant-loop-path g l = record {
  moving : Relates (OfTrees (IsMoving l.from l.to l.initial.paths.items l.paths.items)) l.fn.local l.local;
  removed : Removed l.initial.paths.items l.paths.items l.initial.local l.local;
  extends : ExtendsTree l.fn.local l.local;
}

abbrev pub decreases-loop-path : goal.decreases-loop-path
decreases-loop-path g l = vec_len l.paths
