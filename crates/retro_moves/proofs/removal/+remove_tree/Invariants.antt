use Rattle.std.proofs.Common.{◌-◌, ◌^◌, length, drop}
use Rattle.retro_local.specs.Runs.{Relates, ExtendsTree}
use Rattle.retro_moves.specs.inner.Removal.{IsThinned, OfTrees}
use Rattle.retro_moves.proofs.RemovalTrails.{Trail}
use Rattle.retro_moves.proofs.removal.+remove_tree.Given as goal

abbrev pub decreases-remove_tree : goal.decreases-remove_tree
decreases-remove_tree g l = 2 ^ 64 - length l.path.now

abbrev pub invariant-loop-name : goal.invariant-loop-name
invariant-loop-name g l = record {
  thinned : Relates (OfTrees (IsThinned l.path (drop l.name-index l.name-items))) l.fn.local l.local;
  trail : Trail l.path l.name-items (drop l.name-index l.name-items) l.initial.local l.local;
  extends : ExtendsTree l.fn.local l.local;
}
