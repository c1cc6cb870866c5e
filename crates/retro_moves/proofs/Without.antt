-- Trees without a path and everything below it, node by node.
use Rattle.std.proofs.Common.{◌≡◌, ◌≢◌, ℕ, true, false, not, cond, List, [], ◌∷◌, ◌++◌, Option, Some, None, refl, sym}
use Rattle.std.proofs.Common.{ap, ◌∙◌, append_assoc}
use Rattle.std.specs.Option.{is_some}
use Rattle.std.proofs.lemmas.List.{append-nil}
use Rattle.std.specs.FinMap as finmap
use Rattle.std.specs.FinMap.{get-retain_keys, same_map}
use Rattle.retro_tree.specs.Order.{path_total, path_exact}
use Rattle.retro_tree.specs.Path.{PathValue, below}
use Rattle.retro_tree.specs.Node.{node_of, is_dir}
use Rattle.retro_tree.specs.Tree.{Tree, node_in, put}
use Rattle.retro_tree.specs.Lawful.{IsLawfulTree}
use Rattle.retro_tree.specs.declared.node.Node.TheVariants.{Missing}
use Rattle.retro_tree.proofs.Small.{none_some, some_same}
use Rattle.retro_tree.proofs.Agree.{same_get}
use Rattle.retro_tree.proofs.Lookups.{node_put, node_put_apart}
use Rattle.retro_tree.proofs.Below.{below_append, below_split, child_missing, below_missing}
use Rattle.retro_moves.specs.Trees.{without}

-- trees with the same nodes are equal
pub same_tree : (m n : Tree) → ((r : PathValue) → node_in r m ≡ node_in r n) → m ≡ n
same_tree m n h = same_map path_total path_exact m n (λ r. same_get m n r (h r))

pub get_without : (p r : PathValue) (t : Tree)
    → finmap.get (without p t) r ≡ cond (not (is_some (below p r))) (finmap.get t r) None
unfolding without
get_without p r t =
    get-retain_keys t (λ k. not (is_some (below p k))) r
    (λ k e. ap (λ x. not (is_some (below p x))) (sym (path_exact r k e)))

pub node_without : (p r : PathValue) (t : Tree)
    → node_in r (without p t) ≡ cond (is_some (below p r)) Missing (node_in r t)
unfolding node_in
node_without p r t =
    ap node_of (get_without p r t)
    ∙ elim (is_some (below p r)) as (λ b. node_of (cond (not b) (finmap.get t r) None)
    ≡ cond b Missing (node_of (finmap.get t r))) [ true ↦ refl | false ↦ refl ]

-- ---- paths by what follows a prefix
pub below_itself : (p : PathValue) → below p p ≡ Some []
below_itself p = ap (below p) (sym (append-nil p)) ∙ below_append p []

pub not_below : (p r : PathValue) → below p r ≡ None → r ≢ p
not_below p r b e = none_some [] (sym b ∙ ap (below p) e ∙ below_itself p)

pub not_at : (p r : PathValue) (n : List ℕ) (rest : PathValue) → below p r ≡ Some (n ∷ rest) → r ≢ p
not_at p r n rest b e = no_cons (some_same _ _ (sym b ∙ ap (below p) e ∙ below_itself p))
  where
    no_cons : n ∷ rest ≡ [] → ⊥
    no_cons e = cc

pub is_at : (p r : PathValue) → below p r ≡ Some [] → r ≡ p
is_at p r b = below_split p r [] b ∙ append-nil p

-- in a lawful tree nothing is below a path that isn't a directory
pub nothing_below : (t : Tree) → IsLawfulTree t → (p : PathValue) (n : List ℕ) (rest : PathValue)
    → is_dir (node_in p t) ≡ false → node_in (p ++ n ∷ rest) t ≡ Missing
nothing_below t lawful p n rest file =
    ap (λ k. node_in k t) (sym (append_assoc p (n ∷ []) rest))
    ∙ below_missing t lawful (p ++ n ∷ []) rest (child_missing t lawful p n file)

-- ---- one path
-- a tree without a path that isn't a directory is a tree without that node
pub without_one : (p : PathValue) (t : Tree) → IsLawfulTree t → is_dir (node_in p t) ≡ false
    → put p Missing t ≡ without p t
without_one p t lawful file = same_tree _ _ (λ r. go r (below p r) refl ∙ sym (node_without p r t))
  where
    go : (r : PathValue) (o : Option PathValue) → below p r ≡ o
        → node_in r (put p Missing t) ≡ cond (is_some (below p r)) Missing (node_in r t)
    go r None e = node_put_apart p r Missing t (not_below p r e)
        ∙ ap (λ o. cond (is_some o) Missing (node_in r t)) (sym e)
    go r (Some []) e = ap (λ k. node_in k (put p Missing t)) (is_at p r e) ∙ node_put p Missing t
        ∙ ap (λ o. cond (is_some o) Missing (node_in r t)) (sym e)
    go r (Some (n ∷ rest)) e =
        node_put_apart p r Missing t (not_at p r n rest e) ∙ ap (λ k. node_in k t) (below_split p r (n ∷ rest) e)
        ∙ nothing_below t lawful p n rest file
        ∙ ap (λ o. cond (is_some o) Missing (node_in r t)) (sym e)

-- a tree without a missing path is the same tree
pub without_none : (p : PathValue) (t : Tree) → IsLawfulTree t → node_in p t ≡ Missing → without p t ≡ t
without_none p t lawful none = same_tree _ _ (λ r. node_without p r t ∙ go r (below p r) refl)
  where
    go : (r : PathValue) (o : Option PathValue) → below p r ≡ o
        → cond (is_some (below p r)) Missing (node_in r t) ≡ node_in r t
    go r None e = ap (λ o. cond (is_some o) Missing (node_in r t)) e
    go r (Some rest) e =
        ap (λ o. cond (is_some o) Missing (node_in r t)) e
        ∙ sym (ap (λ k. node_in k t) (below_split p r rest e) ∙ below_missing t lawful p rest none)
