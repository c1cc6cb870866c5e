use Rattle.std.proofs.Common.{rules, ◌≡◌, ◌∙◌, [], ◌∷◌, cond, refl, sym, ap, ap₂}
use Rattle.std.specs.BTreeMap.{is_at}
use Rattle.retro_path.specs.Order.{path_cmp}
use Rattle.retro_tree.specs.Tree.{node_in, put}
use Rattle.retro_tree.specs.declared.node.Node.TheVariants.{Missing}
use Rattle.casebook_compare.proofs.Folders.{node_after, node_found, node_none, node_put}
use Rattle.casebook_compare.proofs.comparing.snapshot_tree.Goals as goal

pub loop-path-init : goal.loop-path-init
loop-path-init c = λ q.
    ap₂ (λ es n. node_after es q n) c.into_iter-path-iterator.ensures.into_iter_gives.0
    (ap (λ s. node_in q s.tree) c.in_ok-place.ensures.ok
    ∙ ap₂ (λ p s. node_in q (put p Missing s.tree)) c.root.ensures c.in_ok-state.ensures ∙ node_none q)

pub loop-path-preserved : goal.loop-path-preserved
loop-path-preserved c = λ q.
    let tree = c.loop-path.state.tree in
    let left : c.loop-path.path-iterator ≡ (c.in-Some.path, c.in-Some.row) ∷ c.next.new.self = search rules in
    ap (node_after c.next.new.self q)
    (ap (λ s. node_in q s.tree) c.in_ok-place-2.ensures.ok ∙ node_put c.in-Some.path c.node_of.result tree q
    ∙ ap (λ n. cond (is_at (path_cmp q) c.in-Some.path) n (node_in q tree)) c.node_of.ensures)
    ∙ ap (λ es. node_after es q (node_in q tree)) (sym left)
    ∙ c.loop-path.invariant q

pub returns : goal.returns
returns c = λ q.
    let none : c.loop-path.path-iterator ≡ [] = search rules in
    ap (λ es. node_after es q (node_in q c.loop-path.state.tree)) (sym none)
    ∙ c.loop-path.invariant q
    ∙ node_found c.args.rows.entries c.into_iter-path-iterator.ensures.into_iter_gives.5 q
