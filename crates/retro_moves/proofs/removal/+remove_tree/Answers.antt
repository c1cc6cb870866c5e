use Rattle.std.proofs.Common.{◌≡◌, ◌∷◌, ◌+◌, [], drop, drop-cons, add-one}
use Rattle.std.proofs.Math.ListN.{drop_of_length-le}
use Rattle.retro_moves.proofs.Removals.{missing_removed, file_childless, file_removed, names_start}
use Rattle.retro_moves.proofs.Removals.{names_step, names_done, dir_removed, extends_more}
use Rattle.retro_moves.proofs.RemovalTrails.{missing_noted, file_noted, trail_step, dir_noted, always_listed}
use Rattle.retro_moves.proofs.removal.+remove_tree.Goals as goal

-- ---- what isn't a directory
pub returns-in-Missing-clause-means : goal.returns-in-Missing-clause-means
returns-in-Missing-clause-means g t c =
    missing_removed _ _ c.args.path.now (rw c.in-Missing.is at c.in_ok-kind.ensures.means) c.keeps_law.ensures.lawful

pub remove-requires-clause-childless : goal.remove-requires-clause-childless
remove-requires-clause-childless g t c =
    rw c.in_ok-copy-in-File.ensures
    (file_childless c.args.local.now c.kind.new.self c.args.path.now (rw c.in-File.is at c.in_ok-kind.ensures.means))

pub returns-in_ok-remove-in-File-clause-means : goal.returns-in_ok-remove-in-File-clause-means
returns-in_ok-remove-in-File-clause-means g t c =
    file_removed _ _ _ c.args.path.now (rw c.in-File.is at c.in_ok-kind.ensures.means)
    (rw c.in_ok-copy-in-File.ensures at c.in_ok-remove-in-File.ensures.means) c.keeps_law.ensures.lawful

pub returns-in_ok-remove-in-File-clause-extends : goal.returns-in_ok-remove-in-File-clause-extends
returns-in_ok-remove-in-File-clause-extends g t c =
    extends_more _ _ _ c.in_ok-kind.ensures.extends c.in_ok-remove-in-File.ensures.extends

pub returns-in_err-remove-in-File-clause-extends : goal.returns-in_err-remove-in-File-clause-extends
returns-in_err-remove-in-File-clause-extends g t c =
    extends_more _ _ _ c.in_ok-kind.ensures.extends c.in_err-remove-in-File.ensures.extends

-- ---- the names of a directory
pub returns-in_err-names-in-Dir-clause-extends : goal.returns-in_err-names-in-Dir-clause-extends
returns-in_err-names-in-Dir-clause-extends g t c =
    extends_more _ _ _ c.in_ok-kind.ensures.extends c.in_err-names-in-Dir.ensures.extends

pub unreachable-requires : goal.unreachable-requires
unreachable-requires g t c =
    always_listed c.args.path.now c.args.local.now c.kind.new.self c.names.new.self
    (rw c.in-Dir.is at c.in_ok-kind.ensures.note) (rw c.in_default.is at c.in_ok-names-in-Dir.ensures.note)
    c.keeps_law-in-Dir.ensures.hold

pub loop-name-init : goal.loop-name-init
loop-name-init g t c = record {
  thinned = rw c.names-name-items.ensures (names_start _ _ _ c.args.path.now c.in-Some.names
      (rw c.in-Dir.is at c.in_ok-kind.ensures.means) (rw c.in-Some.is at c.in_ok-names-in-Dir.ensures.means)
      c.keeps_law.ensures.lawful);
  trail = λ final h. h;
  extends = extends_more _ _ _ c.in_ok-kind.ensures.extends c.in_ok-names-in-Dir.ensures.extends;
}

pub loop-name-preserved : goal.loop-name-preserved
loop-name-preserved g t c =
    let i = c.loop-name.name-index in
    let names = c.names-name-items.result.now in
    let n = c.name-item.result in
    let e : drop i names ≡ n ∷ drop (i + 1) names = rw (c.name-item.is, add-one)
    (drop-cons names i n c.loop-name-test.true) in
    record {
      thinned = names_step _ _ _ c.args.path.now n (drop (i + 1) names) _ (rw e at c.loop-name.invariant.thinned)
          (rw c.in_ok-child-in-Dir.ensures.value at c.in_ok-remove_tree-in-Dir.ensures.means);
      trail = trail_step c.args.path.now names (drop (i + 1) names) n c.names.new.self c.loop-name.local
          c.remove_tree.new.local
          (rw e at c.loop-name.invariant.trail)
          (rw c.in_ok-child-in-Dir.ensures.value at c.in_ok-remove_tree-in-Dir.ensures.notes);
      extends = extends_more _ _ _ c.loop-name.invariant.extends c.in_ok-remove_tree-in-Dir.ensures.extends;
    }

pub returns-in_err-remove_tree-in-Dir-clause-extends : goal.returns-in_err-remove_tree-in-Dir-clause-extends
returns-in_err-remove_tree-in-Dir-clause-extends g t c =
    extends_more _ _ _ c.loop-name.invariant.extends c.in_err-remove_tree-in-Dir.ensures.extends

-- ---- the directory
pub remove-requires-in-Dir-clause-childless : goal.remove-requires-in-Dir-clause-childless
remove-requires-in-Dir-clause-childless g t c =
    let none : drop c.loop-name.name-index c.names-name-items.result.now ≡ [] =
    drop_of_length-le c.names-name-items.result.now c.loop-name-test.false in
    rw c.in_ok-copy-in-Dir.ensures
    (names_done c.args.local.now c.loop-name.local c.args.path.now (rw none at c.loop-name.invariant.thinned))

pub returns-in_ok-remove-in-Dir-clause-means : goal.returns-in_ok-remove-in-Dir-clause-means
returns-in_ok-remove-in-Dir-clause-means g t c =
    let none : drop c.loop-name.name-index c.names-name-items.result.now ≡ [] =
    drop_of_length-le c.names-name-items.result.now c.loop-name-test.false in
    dir_removed c.args.local.now c.loop-name.local _ c.args.path.now (rw none at c.loop-name.invariant.thinned)
    (rw c.in_ok-copy-in-Dir.ensures at c.in_ok-remove-in-Dir.ensures.means)

pub returns-in_ok-remove-in-Dir-clause-extends : goal.returns-in_ok-remove-in-Dir-clause-extends
returns-in_ok-remove-in-Dir-clause-extends g t c =
    extends_more _ _ _ c.loop-name.invariant.extends c.in_ok-remove-in-Dir.ensures.extends

pub returns-in_err-remove-in-Dir-clause-extends : goal.returns-in_err-remove-in-Dir-clause-extends
returns-in_err-remove-in-Dir-clause-extends g t c =
    extends_more _ _ _ c.loop-name.invariant.extends c.in_err-remove-in-Dir.ensures.extends

-- ---- notes
pub returns-in-Missing-clause-notes : goal.returns-in-Missing-clause-notes
returns-in-Missing-clause-notes g t c =
    missing_noted c.args.path.now _ _ (rw c.in-Missing.is at c.in_ok-kind.ensures.note)

pub returns-in_ok-remove-in-File-clause-notes : goal.returns-in_ok-remove-in-File-clause-notes
returns-in_ok-remove-in-File-clause-notes g t c =
    file_noted c.args.path.now _ _ _ (rw c.in-File.is at c.in_ok-kind.ensures.note)
    (rw c.in_ok-copy-in-File.ensures at c.in_ok-remove-in-File.ensures.note)

pub returns-in_ok-remove-in-Dir-clause-notes : goal.returns-in_ok-remove-in-Dir-clause-notes
returns-in_ok-remove-in-Dir-clause-notes g t c =
    let none : drop c.loop-name.name-index c.names-name-items.result.now ≡ [] =
    drop_of_length-le c.names-name-items.result.now c.loop-name-test.false in
    dir_noted c.args.path.now c.names-name-items.result.now c.args.local.now c.kind.new.self c.names.new.self
    c.loop-name.local c.remove-in-Dir.new.self (rw c.in-Dir.is at c.in_ok-kind.ensures.note)
    (rw (← c.names-name-items.ensures) at (rw c.in-Some.is at c.in_ok-names-in-Dir.ensures.note))
    (rw none at c.loop-name.invariant.trail) (rw c.in_ok-copy-in-Dir.ensures at c.in_ok-remove-in-Dir.ensures.note)
