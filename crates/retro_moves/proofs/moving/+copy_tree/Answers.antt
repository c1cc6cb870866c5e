use Rattle.std.proofs.Common.{refl, sym, subst, ◌∙◌, [], ◌≡◌, ◌∷◌, ◌+◌, true, drop, drop-cons, add-one, arith}
use Rattle.std.proofs.Math.ListN.{drop_of_length-le}
use Rattle.retro_tree.specs.Lawful.{IsLawful, may_put}
use Rattle.retro_tree.specs.declared.node.Node.TheVariants.{Dir}
use Rattle.retro_moves.proofs.Removals.{extends_more}
use Rattle.retro_moves.proofs.Moves.{always_asked, may_put_copy, leaf_copied, dir_copied, child_here, child_may}
use Rattle.retro_moves.proofs.Moves.{child_copied, leaf_of, deeper_falls}
use Rattle.retro_moves.specs.MoveNotes.{NodeNotes}
use Rattle.retro_moves.proofs.MoveTrails.{trail_start, trail_step, trail_end, leaf_noted, always_listed}
use Rattle.retro_moves.proofs.moving.+copy_tree.Goals as goal

-- ---- a directory
pub put-requires : goal.put-requires
put-requires g t c =
    rw c.in_ok-copy-in-Dir.ensures
    (always_asked (λ s. may_put c.args.to.now Dir s.tree ≡ true) _ c.args.local.now c.names.new.self _
    c.in_ok-names-in-Dir.ensures.means
    (may_put_copy c.args.local.now c.args.from.now c.args.to.now Dir c.requires.can
    (rw c.in-Dir.is at c.requires.here)))

pub returns-in_err-put-in-Dir-clause-extends : goal.returns-in_err-put-in-Dir-clause-extends
returns-in_err-put-in-Dir-clause-extends g t c =
    extends_more _ _ _ c.in_ok-names-in-Dir.ensures.extends c.in_err-put-in-Dir.ensures.extends

pub returns-in_err-copy-in-Dir-2-clause-extends : goal.returns-in_err-copy-in-Dir-2-clause-extends
returns-in_err-copy-in-Dir-2-clause-extends g t c =
    extends_more _ _ _ c.in_ok-names-in-Dir.ensures.extends c.in_ok-put-in-Dir.ensures.extends

pub returns-in_err-push-in-Dir-clause-extends : goal.returns-in_err-push-in-Dir-clause-extends
returns-in_err-push-in-Dir-clause-extends g t c =
    extends_more _ _ _ c.in_ok-names-in-Dir.ensures.extends c.in_ok-put-in-Dir.ensures.extends

pub loop-name-init : goal.loop-name-init
loop-name-init g t c =
    let start = dir_copied c.args.local.now c.names.new.self _ c.args.from.now c.args.to.now c.in-Some.names
    (rw c.in-Some.is at c.in_ok-names-in-Dir.ensures.means)
    (rw c.in_ok-copy-in-Dir.ensures at c.in_ok-put-in-Dir.ensures.means) c.requires.can
    (rw c.in-Dir.is at c.requires.here) c.keeps_law.ensures.lawful in
    record {
      copied = rw (
        c.names-name-items.ensures,
        c.in_ok-push-in-Dir.ensures.items,
        c.new-paths.ensures.items,
        c.in_ok-copy-in-Dir-2.ensures,
      ) start;
      trail = λ l. trail_start c.args.from.now c.args.to.now c.names-name-items.result.now _ c.put.new.local
          (rw (c.in_ok-push-in-Dir.ensures.items, c.new-paths.ensures.items, c.in_ok-copy-in-Dir-2.ensures) refl);
      extends = extends_more _ _ _ c.in_ok-names-in-Dir.ensures.extends c.in_ok-put-in-Dir.ensures.extends;
    }

-- ---- a child
pub returns-in_err-node-in-Dir-clause-extends : goal.returns-in_err-node-in-Dir-clause-extends
returns-in_err-node-in-Dir-clause-extends g t c =
    extends_more _ _ _ c.loop-name.invariant.extends c.in_err-node-in-Dir.ensures.extends

pub copy_tree-requires : goal.copy_tree-requires
copy_tree-requires g t c κs within =
    let i = c.loop-name.name-index in
    let names = c.names-name-items.result.now in
    let n = c.name-item.result in
    let e : drop i names ≡ n ∷ drop (i + 1) names = rw (c.name-item.is, add-one)
    (drop-cons names i n c.loop-name-test.true) in
    let asked = rw c.in_ok-source-in-Dir.ensures.value at c.in_ok-node-in-Dir.ensures.means in
    let can = child_may c.args.local.now c.loop-name.local c.node.new.self c.args.from.now c.args.to.now n
    (drop (i + 1) names) _ c.in_ok-node-in-Dir.node (rw e at c.loop-name.invariant.copied)
    (rw c.in-Dir.is at c.requires.here) c.keeps_law.ensures.lawful asked in
    let here = child_here _ _ _ _ asked in
    let falls = deeper_falls c.args.from.now c.in_ok-source-in-Dir.source n c.in_ok-source-in-Dir.ensures.value
    c.in_ok-source-in-Dir.ensures.length in (
      grind (arith, falls, c.decreases),
      (
        within,
        (
          rw (c.in_ok-source-in-Dir.ensures.value, c.in_ok-target-in-Dir.ensures.value) can,
          rw c.in_ok-source-in-Dir.ensures.value here,
        ),
      ),
    )

pub returns-in_err-more-in-Dir-clause-extends : goal.returns-in_err-more-in-Dir-clause-extends
returns-in_err-more-in-Dir-clause-extends g t c =
    extends_more _ _ _ c.loop-name.invariant.extends
    (extends_more _ _ _ c.in_ok-node-in-Dir.ensures.extends c.in_err-more-in-Dir.ensures.extends)

pub returns-in_err-append-in-Dir-clause-extends : goal.returns-in_err-append-in-Dir-clause-extends
returns-in_err-append-in-Dir-clause-extends g t c =
    extends_more _ _ _ c.loop-name.invariant.extends
    (extends_more _ _ _ c.in_ok-node-in-Dir.ensures.extends c.in_ok-more-in-Dir.ensures.extends)

pub loop-name-preserved : goal.loop-name-preserved
loop-name-preserved g t c =
    let i = c.loop-name.name-index in
    let names = c.names-name-items.result.now in
    let n = c.name-item.result in
    let e : drop i names ≡ n ∷ drop (i + 1) names = rw (c.name-item.is, add-one)
    (drop-cons names i n c.loop-name-test.true) in
    let asked = rw c.in_ok-source-in-Dir.ensures.value at c.in_ok-node-in-Dir.ensures.means in
    let more = child_copied c.args.local.now c.loop-name.local _ _ c.args.from.now c.args.to.now n
    (drop (i + 1) names) _ c.in_ok-more-in-Dir.more.items _ (rw e at c.loop-name.invariant.copied) asked
    (rw (c.in_ok-source-in-Dir.ensures.value, c.in_ok-target-in-Dir.ensures.value) at
    c.in_ok-more-in-Dir.ensures.means) in
    record {
      copied = rw c.in_ok-append-in-Dir.ensures.items more;
      trail = λ l. trail_step c.args.from.now c.args.to.now names (drop (i + 1) names) n c.loop-name.paths.items
          c.in_ok-more-in-Dir.more.items _ c.in_ok-node-in-Dir.node c.put.new.local c.loop-name.local c.node.new.self
          c.copy_tree.new.local ((rw e at c.loop-name.invariant.trail) l)
          (rw c.in_ok-source-in-Dir.ensures.value at c.in_ok-node-in-Dir.ensures.note)
          ((rw (c.in_ok-source-in-Dir.ensures.value, c.in_ok-target-in-Dir.ensures.value) at
          c.in_ok-more-in-Dir.ensures.notes)
          (subst IsLawful (sym (c.in_ok-node-in-Dir.ensures.extends.start ∙ c.loop-name.invariant.extends.start)) l))
          c.in_ok-append-in-Dir.ensures.items;
      extends = extends_more _ _ _ c.loop-name.invariant.extends
          (extends_more _ _ _ c.in_ok-node-in-Dir.ensures.extends c.in_ok-more-in-Dir.ensures.extends);
    }

-- ---- a file
pub put-requires-in_default : goal.put-requires-in_default
put-requires-in_default g t c =
    rw c.in_ok-copy-in_default.ensures
    (may_put_copy c.args.local.now c.args.from.now c.args.to.now c.args.node c.requires.can c.requires.here)

pub returns-in_ok-push-in_default : goal.returns-in_ok-push-in_default
returns-in_ok-push-in_default g t c = record {
  means = rw (c.in_ok-push-in_default.ensures.items, c.new-paths.ensures.items, c.in_ok-copy-in_default-2.ensures)
      (leaf_copied c.args.local.now _ c.args.from.now c.args.to.now c.args.node
      (leaf_of c.args.node c.in_default.not-Dir)
      (rw c.in_ok-copy-in_default.ensures at c.in_ok-put-in_default.ensures.means) c.requires.can c.requires.here
      c.keeps_law.ensures.lawful);
  notes = λ l. leaf_noted c.args.from.now c.args.to.now c.args.node _ c.args.local.now c.put-in_default.new.local
      (leaf_of c.args.node c.in_default.not-Dir)
      (rw (c.in_ok-push-in_default.ensures.items, c.new-paths.ensures.items, c.in_ok-copy-in_default-2.ensures) refl)
      (rw c.in_ok-copy-in_default.ensures at c.in_ok-put-in_default.ensures.note);
  extends = c.in_ok-put-in_default.ensures.extends;
}

-- ---- notes
pub returns-after-loop-name-clause-notes : goal.returns-after-loop-name-clause-notes
returns-after-loop-name-clause-notes g t c l =
    let none : drop c.loop-name.name-index c.names-name-items.result.now ≡ [] =
    drop_of_length-le c.names-name-items.result.now c.loop-name-test.false in
    subst (λ x. NodeNotes c.args.from.now c.args.to.now x c.loop-name.paths.items c.args.local.now.notes
    c.loop-name.local.notes)
    (sym c.in-Dir.is)
    (trail_end c.args.from.now c.args.to.now c.names-name-items.result.now c.loop-name.paths.items c.args.local.now
    c.names.new.self c.put.new.local c.loop-name.local
    (rw (← c.names-name-items.ensures) at (rw c.in-Some.is at c.in_ok-names-in-Dir.ensures.note))
    (rw c.in_ok-copy-in-Dir.ensures at c.in_ok-put-in-Dir.ensures.note) ((rw none at c.loop-name.invariant.trail) l))

pub returns-in_default-2-clause-notes : goal.returns-in_default-2-clause-notes
returns-in_default-2-clause-notes g t c l =
    absurd (always_listed c.args.from.now c.args.local.now c.names.new.self (rw c.in-Dir.is at c.requires.here)
    c.keeps_law.ensures.hold c.keeps_law.ensures.lawful (rw c.in_default-2.is at c.in_ok-names-in-Dir.ensures.means)
    (rw c.in_default-2.is at c.in_ok-names-in-Dir.ensures.note) l c.keeps_law-in_default-2.ensures.hold)
