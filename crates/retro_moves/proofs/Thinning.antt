-- Removing what is below a directory, name by name.
use Rattle.std.proofs.Common.{◌≡◌, ℕ, Bool, true, false, cond, ◌||◌, List, [], ◌∷◌, ◌++◌, Option, Some, None}
use Rattle.std.proofs.Common.{refl, sym, ap, ◌∙◌}
use Rattle.std.specs.Option.{is_some}
use Rattle.std.specs.List.{list_any, AllByRecursion}
use Rattle.std.specs.List.Sorted.{IsStrictlySortedBy}
use Rattle.std.specs.Bool.{if◌then◌else◌}
use Rattle.std.specs.Ordering.{is_eq}
use Rattle.std.specs.declared.cmp.Ordering.TheVariants.{Less}
use Rattle.std.specs.Cmp.Lexicographic.{nat_list_eq_equiv}
use Rattle.std.specs.FinMap as finmap
use Rattle.std.proofs.lemmas.Bool.{true≢false}
use Rattle.retro_tree.specs.Order.{text_cmp, text_eq, text_ties}
use Rattle.retro_tree.specs.Path.{PathValue, below}
use Rattle.retro_tree.specs.Tree.{Tree, node_in, put}
use Rattle.retro_tree.specs.Ask.{names_in}
use Rattle.retro_tree.specs.Lawful.{IsLawfulTree}
use Rattle.retro_tree.specs.declared.node.Node.{Node}
use Rattle.retro_tree.specs.declared.node.Node.TheVariants.{Missing, Dir}
use Rattle.retro_tree.proofs.Small.{same_text}
use Rattle.retro_tree.proofs.Lookups.{node_put, node_put_apart}
use Rattle.retro_tree.proofs.LawLemmas.{there_of_key}
use Rattle.retro_tree.proofs.Below.{below_append, below_split, step_in, below_child, unlisted}
use Rattle.retro_tree.proofs.Children.{names_rise, names_listed}
use Rattle.retro_moves.specs.Trees.{without}
use Rattle.retro_moves.specs.inner.Removal.{Distinct, node_left, IsThinned}
use Rattle.retro_moves.proofs.Without.{same_tree, node_without, not_below, not_at, is_at}

-- ---- names
-- names that rise are distinct
differs : (n : List ℕ) (ns : List (List ℕ)) → AllByRecursion (λ m. text_cmp n m ≡ Less) ns
    → list_any (text_eq n) ns ≡ false
differs n [] h = refl
differs n (m ∷ ns) h = λ i. (text_ties n m ∙ ap is_eq h.0) i || differs n ns h.1 i

rising_distinct : (ns : List (List ℕ)) → IsStrictlySortedBy text_cmp ns → Distinct ns
unfolding IsStrictlySortedBy
rising_distinct [] h = tt
rising_distinct (n ∷ ns) h = (differs n ns h.0, rising_distinct ns h.1)

pub names_distinct : (p : PathValue) (t : Tree) → Distinct (names_in p t)
names_distinct p t = rising_distinct (names_in p t) (names_rise p t)

-- a path whose children are all missing has no names
pub no_names : (p : PathValue) (t : Tree) → ((n : List ℕ) → node_in (p ++ n ∷ []) t ≡ Missing) → names_in p t ≡ []
no_names p t h = go (names_in p t) (λ n. names_listed p n t)
  where
    absent : (n : List ℕ) (b : Bool) → finmap.contains_key t (p ++ n ∷ []) ≡ b → b ≡ false
    absent n true e = absurd (there_of_key t (p ++ n ∷ []) e (h n))
    absent n false e = refl

    go : (ns : List (List ℕ)) → ((n : List ℕ) → list_any (text_eq n) ns ≡ finmap.contains_key t (p ++ n ∷ [])) → ns ≡ []
    go [] listed = refl
    go (n ∷ ns) listed =
        absurd (true≢false (sym (ap (λ b. b || list_any (text_eq n) ns) (nat_list_eq_equiv.refl n)) ∙ listed n
        ∙ absent n _ refl))

-- ---- thinning
-- at first each name is left
pub thinned_start : (p : PathValue) (t : Tree) → IsLawfulTree t → node_in p t ≡ Dir → IsThinned p (names_in p t) t t
thinned_start p t lawful is = record {
  dir = is;
  nodes = λ r. go r (below p r) refl;
  distinct = names_distinct p t;
}
  where
    test : (r : PathValue) (n : List ℕ) (rest : PathValue) (b : Bool) → below p r ≡ Some (n ∷ rest)
        → list_any (text_eq n) (names_in p t) ≡ b → node_in r t ≡ (if b then node_in r t else Missing)
    test r n rest true e is = refl
    test r n rest false e is = ap (λ k. node_in k t) (below_split p r (n ∷ rest) e) ∙ unlisted t lawful p n rest is

    go : (r : PathValue) (o : Option PathValue) → below p r ≡ o
        → node_in r t ≡ node_left (names_in p t) (below p r) (node_in r t)
    go r None e = ap (λ o. node_left (names_in p t) o (node_in r t)) (sym e)
    go r (Some []) e = ap (λ o. node_left (names_in p t) o (node_in r t)) (sym e)
    go r (Some (n ∷ rest)) e = test r n rest (list_any (text_eq n) (names_in p t)) e refl
        ∙ ap (λ o. node_left (names_in p t) o (node_in r t)) (sym e)

-- one more name is done
pub thinned_step : (p : PathValue) (n : List ℕ) (left : List (List ℕ)) (t u : Tree) → IsThinned p (n ∷ left) t u
    → IsThinned p left t (without (p ++ n ∷ []) u)
thinned_step p n left t u h = record {
  dir = h.dir;
  nodes = λ r.
      node_without (p ++ n ∷ []) r u ∙ (λ i. cond (is_some (below_child p n r i)) Missing (h.nodes r i))
      ∙ go (below p r) (node_in r t);
  distinct = h.distinct.1;
}
  where
    same : (m : List ℕ) (rest : PathValue) (node : Node) (b : Bool) → text_eq n m ≡ b
        → cond (is_some (if b then Some rest else None)) Missing
        (if text_eq m n || list_any (text_eq m) left then node else Missing)
        ≡ (if list_any (text_eq m) left then node else Missing)
    same m rest node true e =
        ap (λ b. if b then node else Missing)
        (sym (ap (λ k. list_any (text_eq k) left) (sym (same_text n m e)) ∙ h.distinct.0))
    same m rest node false e =
        ap (λ b. if b || list_any (text_eq m) left then node else Missing) (nat_list_eq_equiv.symm m n ∙ e)

    go : (o : Option PathValue) (node : Node)
        → cond (is_some (step_in n o)) Missing (node_left (n ∷ left) o node) ≡ node_left left o node
    go None node = refl
    go (Some []) node = refl
    go (Some (m ∷ rest)) node = same m rest node (text_eq n m) refl

-- with no name left, the directory is empty
pub thinned_names : (p : PathValue) (t u : Tree) → IsThinned p [] t u → names_in p u ≡ []
thinned_names p t u h = no_names p u (λ n.
    h.nodes (p ++ n ∷ []) ∙ ap (λ o. node_left [] o (node_in (p ++ n ∷ []) t)) (below_append p (n ∷ [])))

-- and the directory itself goes last
pub thinned_end : (p : PathValue) (t u : Tree) → IsThinned p [] t u → put p Missing u ≡ without p t
thinned_end p t u h = same_tree _ _ (λ r. go r (below p r) refl ∙ sym (node_without p r t))
  where
    go : (r : PathValue) (o : Option PathValue) → below p r ≡ o
        → node_in r (put p Missing u) ≡ cond (is_some (below p r)) Missing (node_in r t)
    go r None e =
        node_put_apart p r Missing u (not_below p r e) ∙ h.nodes r ∙ ap (λ o. node_left [] o (node_in r t)) e
        ∙ ap (λ o. cond (is_some o) Missing (node_in r t)) (sym e)
    go r (Some []) e = ap (λ k. node_in k (put p Missing u)) (is_at p r e) ∙ node_put p Missing u
        ∙ ap (λ o. cond (is_some o) Missing (node_in r t)) (sym e)
    go r (Some (n ∷ rest)) e =
        node_put_apart p r Missing u (not_at p r n rest e) ∙ h.nodes r ∙ ap (λ o. node_left [] o (node_in r t)) e
        ∙ ap (λ o. cond (is_some o) Missing (node_in r t)) (sym e)
