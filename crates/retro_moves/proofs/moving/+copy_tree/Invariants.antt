use Rattle.std.proofs.Common.{◌-◌, ◌^◌, length, drop}
use Rattle.retro_tree.specs.Lawful.{IsLawful}
use Rattle.retro_local.specs.Runs.{Relates, ExtendsTree}
use Rattle.retro_moves.specs.inner.Removal.{OfTrees}
use Rattle.retro_moves.specs.inner.Move.{IsCopy}
use Rattle.retro_moves.proofs.MoveTrails.{Trail}
use Rattle.retro_moves.proofs.moving.+copy_tree.Given as goal

abbrev pub decreases-copy_tree : goal.decreases-copy_tree
decreases-copy_tree g l = 2 ^ 64 - length l.from.now

abbrev pub invariant-loop-name : goal.invariant-loop-name
invariant-loop-name g l = record {
  copied : Relates (OfTrees (IsCopy l.from l.to (drop l.name-index l.name-items) l.paths.items)) l.fn.local l.local;
  trail : IsLawful l.fn.local.start
      → Trail l.from l.to l.name-items (drop l.name-index l.name-items) l.paths.items l.initial.local l.local;
  extends : ExtendsTree l.fn.local l.local;
}
