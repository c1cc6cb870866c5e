use Rattle.retro_moves.proofs.Removals.{extends_more}
use Rattle.retro_moves.proofs.Moves.{can_copy, move_start, move_may, move_step, move_end, empty_length}
use Rattle.retro_moves.proofs.MoveTrails.{removed_start, removed_step, removed_end}
use Rattle.retro_moves.proofs.moving.move_dir.Goals as goal
use Rattle.std.proofs.Common.{rules}

pub copy_tree-requires-clause-can : goal.copy_tree-requires-clause-can
copy_tree-requires-clause-can g c =
    can_copy c.args.local.now c.args.from.now c.args.to.now c.names-names.ensures.names c.requires

pub loop-path-init : goal.loop-path-init
loop-path-init g c = record {
  moving = move_start _ _ c.args.from.now c.args.to.now c.in_ok-paths.paths.items c.in_ok-paths.ensures.means;
  removed = removed_start c.in_ok-paths.paths.items c.copy_tree.new.local;
  extends = c.in_ok-paths.ensures.extends;
}

pub put-requires : goal.put-requires
put-requires g c =
    move_may c.args.local.now c.loop-path.local c.args.from.now c.args.to.now _ c.pop.new.self.items _ c.in-Some.path
    c.in-Some.ensures.items c.loop-path.invariant.moving

pub loop-path-preserved : goal.loop-path-preserved
loop-path-preserved g c = record {
  moving = move_step _ _ _ c.args.from.now c.args.to.now _ c.pop.new.self.items _ c.in-Some.path
      c.in-Some.ensures.items c.loop-path.invariant.moving c.in_ok-put.ensures.means;
  removed = removed_step c.in_ok-paths.paths.items c.pop.new.self.items _ c.in-Some.path c.copy_tree.new.local
      c.loop-path.local c.put.new.local c.in-Some.ensures.items c.loop-path.invariant.removed c.in_ok-put.ensures.note;
  extends = extends_more _ _ _ c.loop-path.invariant.extends c.in_ok-put.ensures.extends;
}

pub returns-in_err-put-clause-extends : goal.returns-in_err-put-clause-extends
returns-in_err-put-clause-extends g c =
    extends_more _ _ _ c.loop-path.invariant.extends c.in_err-put.ensures.extends

pub returns-clause-means : goal.returns-clause-means
returns-clause-means g c =
    move_end _ _ c.args.from.now c.args.to.now _ c.loop-path.paths.items (empty_length _ (search rules))
    c.loop-path.invariant.moving

pub returns-clause-notes : goal.returns-clause-notes
returns-clause-notes g c l =
    removed_end c.args.from.now c.args.to.now c.in_ok-paths.paths.items c.loop-path.paths.items c.args.local.now
    c.copy_tree.new.local c.loop-path.local (empty_length _ (search rules)) (c.in_ok-paths.ensures.notes l)
    c.loop-path.invariant.removed
