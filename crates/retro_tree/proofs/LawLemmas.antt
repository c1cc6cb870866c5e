-- A change of a lawful tree is tested at its own path and below it.
use Rattle.std.proofs.Common.{◌≡◌, ◌≢◌, ◌⊎◌, ⊎_elim, ℕ, suc, Bool, true, false, not, ◌||◌, List, [], ◌∷◌, length}
use Rattle.std.proofs.Common.{Option, Some, None, refl, sym, ap, ◌∙◌, arith, nat_eq}
use Rattle.std.specs.Option.{is_some}
use Rattle.std.specs.List.{list_any}
use Rattle.std.specs.Bool.{if◌then◌else◌}
use Rattle.std.specs.Cmp.Lexicographic.{pointwise, nat_list_eq_equiv}
use Rattle.std.specs.Ordering.{eq_by_cmp, is_eq}
use Rattle.std.specs.Cmp.{tied_itself}
use Rattle.std.specs.FinMap as finmap
use Rattle.std.proofs.lemmas.Bool.{true≢false, false≢true}
use Rattle.retro_tree.specs.Order.{path_cmp, path_total, path_exact}
use Rattle.retro_tree.specs.Path.{PathValue, below, only_name, parent_of, is_child}
use Rattle.retro_tree.specs.Node.{node_of, grown, is_dir}
use Rattle.retro_tree.specs.Tree.{Tree, node_in, put, has_child}
use Rattle.retro_tree.specs.Lawful.{law_at, IsLawfulTree, may_put, may_grow}
use Rattle.retro_tree.specs.declared.entry.Entry.{Entry}
use Rattle.retro_tree.specs.declared.entry.Entry.TheVariants.{Dir as DirEntry, File as FileEntry}
use Rattle.retro_tree.specs.declared.node.Node.{Node}
use Rattle.retro_tree.specs.declared.node.Node.TheVariants.{Missing, Dir, File}
use Rattle.retro_tree.proofs.Lookups.{node_put, node_put_apart, one_or_two}
use Rattle.retro_tree.proofs.Small.{tied, first_true, both_true, and_true, or_last, not_true, same_text}

-- ---- parents and children
below_here : (name : List ℕ) (prefix path : PathValue) → below (name ∷ prefix) (name ∷ path) ≡ below prefix path
below_here name prefix path = ap (λ b. if b then below prefix path else None) (nat_list_eq_equiv.refl name)

-- a path that isn't the root is its parent's child
pub child_of_parent : (name : List ℕ) (rest : PathValue) → is_child (parent_of (name ∷ rest)) (name ∷ rest) ≡ true
child_of_parent name [] = refl
child_of_parent name (other ∷ rest) =
    ap (λ o. is_some (only_name o)) (below_here name (parent_of (other ∷ rest)) (other ∷ rest))
    ∙ child_of_parent other rest

not_own_child : (p : PathValue) → is_child p [] ≡ false
not_own_child [] = refl
not_own_child (x ∷ p) = refl

deeper : (y : List ℕ) (p q : PathValue) → is_child p q ≡ true → parent_of q ≡ p → parent_of (y ∷ q) ≡ y ∷ p
deeper y p [] e is = absurd (true≢false (sym e ∙ not_own_child p))
deeper y p (z ∷ q) e is = ap (λ r. y ∷ r) is

-- a child has this parent
pub parent_of_child : (p q : PathValue) → is_child p q ≡ true → parent_of q ≡ p
parent_of_child [] [] e = absurd (false≢true e)
parent_of_child [] (name ∷ []) e = refl
parent_of_child [] (name ∷ other ∷ rest) e = absurd (false≢true e)
parent_of_child (x ∷ p) [] e = absurd (false≢true e)
parent_of_child (x ∷ p) (y ∷ q) e =
    elim (pointwise nat_eq x y) as (λ b. pointwise nat_eq x y ≡ b
    → is_some (only_name (if b then below p q else None)) ≡ true → parent_of (y ∷ q) ≡ x ∷ p) [
      | true ↦ λ same here. deeper y p q here (parent_of_child p q here) ∙ ap (λ n. n ∷ p) (sym (same_text x y same))
      | false ↦ λ same here. absurd (false≢true here)
    ] refl e

length_parent : (name : List ℕ) (rest : PathValue) → suc (length (parent_of (name ∷ rest))) ≡ length (name ∷ rest)
length_parent name [] = refl
length_parent name (other ∷ rest) = ap suc (length_parent other rest)

-- no path but the root is its own parent
pub apart_from_parent : (name : List ℕ) (rest : PathValue) → parent_of (name ∷ rest) ≢ name ∷ rest
apart_from_parent name rest e = absurd (omega (arith, length_parent name rest, ap length e))

-- ---- has_child
left_false : (a b : Bool) → (a || b) ≡ false → a ≡ false
left_false true b e = e
left_false false b e = refl

right_false : (a b : Bool) → (a || b) ≡ false → b ≡ false
right_false true b e = absurd (true≢false e)
right_false false b e = e

or_right : (a b : Bool) → b ≡ true → (a || b) ≡ true
or_right true b e = refl
or_right false b e = e

no_child : (p : PathValue) (ks : List PathValue) (q : PathValue) → list_any (is_child p) ks ≡ false
    → is_child p q ≡ true → list_any (eq_by_cmp path_cmp q) ks ≡ false
no_child p [] q h e = refl
no_child p (k ∷ ks) q h e =
    elim (eq_by_cmp path_cmp q k) as (λ b. eq_by_cmp path_cmp q k ≡ b
    → (b || list_any (eq_by_cmp path_cmp q) ks) ≡ false) [
      | true ↦ λ t. absurd (true≢false (sym e ∙ ap (is_child p) (path_exact q k (tied _ t))
          ∙ left_false (is_child p k) _ h))
      | false ↦ λ t. no_child p ks q (right_false (is_child p k) _ h) e
    ] refl

pub some_child : (p : PathValue) (ks : List PathValue) → list_any (is_child p) ks ≡ true
    → (q : PathValue) × (is_child p q ≡ true) × (list_any (eq_by_cmp path_cmp q) ks ≡ true)
some_child p [] h = absurd (false≢true h)
some_child p (k ∷ ks) h =
    elim (is_child p k) as (λ b. is_child p k ≡ b → (b || list_any (is_child p) ks) ≡ true
    → (q : PathValue) × (is_child p q ≡ true) × (list_any (eq_by_cmp path_cmp q) (k ∷ ks) ≡ true)) [
      | true ↦ λ t g. (k, t, ap (λ r. is_eq r || list_any (eq_by_cmp path_cmp k) ks) (tied_itself path_total k))
      | false ↦ λ t g. let rest = some_child p ks g in (rest.0, rest.1, or_right (eq_by_cmp path_cmp rest.0 k) _ rest.2)
    ] refl h

-- ---- the laws
-- a parent that stays a directory keeps its children lawful
pub law_under_dir : (p : PathValue) (node above : Node) → law_at p node above ≡ true → law_at p node Dir ≡ true
law_under_dir [] node above h = h
law_under_dir (name ∷ rest) Missing above h = refl
law_under_dir (name ∷ rest) Dir above h = both_true (is_dir above) _ h
law_under_dir (name ∷ rest) (File bytes) above h = both_true (is_dir above) _ h

-- a missing node is lawful under every parent
law_of_missing : (p : PathValue) (above other : Node) → law_at p Missing above ≡ true → law_at p Missing other ≡ true
law_of_missing [] above other h = h
law_of_missing (name ∷ rest) above other h = refl

-- a node that isn't missing has a directory as its parent
pub dir_above : (name : List ℕ) (rest : PathValue) (node above : Node) → node ≢ Missing
    → law_at (name ∷ rest) node above ≡ true → is_dir above ≡ true
dir_above name rest Missing above ne h = absurd (ne refl)
dir_above name rest Dir above ne h = first_true (is_dir above) _ h
dir_above name rest (File bytes) above ne h = first_true (is_dir above) _ h

root_law : (node above other : Node) → law_at [] node above ≡ law_at [] node other
root_law node above other = refl

missing_of_no_key : (tree : Tree) (q : PathValue) → finmap.contains_key tree q ≡ false → node_in q tree ≡ Missing
unfolding node_in
missing_of_no_key tree q e = ap node_of (none (finmap.get tree q) e)
  where
    none : {A : Type 0} (o : Option A) → is_some o ≡ false → o ≡ None
    none None e = refl
    none (Some x) e = absurd (true≢false e)

pub there_of_key : (tree : Tree) (q : PathValue) → finmap.contains_key tree q ≡ true → node_in q tree ≢ Missing
unfolding node_in
there_of_key tree q e is = go (finmap.get tree q) e is
  where
    go : (o : Option Entry) → is_some o ≡ true → node_of o ≢ Missing
    go None e is = false≢true e
    go (Some DirEntry) e is = cc
    go (Some (FileEntry bytes)) e is = cc

same_or_apart : (q p : PathValue) → (q ≡ p) ⊎ (q ≢ p)
same_or_apart = one_or_two path_total path_exact

-- nothing is below a path without children
pub nothing_below : (p q : PathValue) (tree : Tree) → has_child p tree ≡ false → is_child p q ≡ true
    → node_in q tree ≡ Missing
unfolding has_child
nothing_below p q tree h e =
    missing_of_no_key tree q (finmap.contains_key-keys tree q ∙ no_child p (finmap.keys tree) q h e)

below_after : (p : PathValue) (name : List ℕ) (rest : PathValue) (node : Node) (tree : Tree)
    → parent_of (name ∷ rest) ≡ p → law_at (name ∷ rest) (node_in (name ∷ rest) tree)
    (node_in (parent_of (name ∷ rest)) tree) ≡ true → (is_dir node || not (has_child p tree)) ≡ true
    → law_at (name ∷ rest) (node_in (name ∷ rest) tree) node ≡ true
below_after p name rest Dir tree e old h = law_under_dir (name ∷ rest) (node_in (name ∷ rest) tree) _ old
below_after p name rest Missing tree e old h =
    ap (λ n. law_at (name ∷ rest) n Missing) (nothing_below p (name ∷ rest) tree (not_true _ h)
    (ap (λ k. is_child k (name ∷ rest)) (sym e) ∙ child_of_parent name rest))
below_after p name rest (File bytes) tree e old h =
    ap (λ n. law_at (name ∷ rest) n (File bytes)) (nothing_below p (name ∷ rest) tree (not_true _ h)
    (ap (λ k. is_child k (name ∷ rest)) (sym e) ∙ child_of_parent name rest))

-- at the path itself
law_here : (p : PathValue) (node : Node) (tree : Tree) → law_at p (node_in p (put p node tree))
    (node_in (parent_of p) (put p node tree)) ≡ law_at p node (node_in (parent_of p) tree)
law_here [] node tree = ap is_dir (node_put [] node tree)
law_here (name ∷ rest) node tree =
    λ i. law_at (name ∷ rest) (node_put (name ∷ rest) node tree i)
    (node_put_apart (name ∷ rest) (parent_of (name ∷ rest)) node tree (apart_from_parent name rest) i)

-- at another path
law_there : (p q : PathValue) (node : Node) (tree : Tree) → q ≢ p → IsLawfulTree tree
    → may_put p node tree ≡ true → law_at q (node_in q (put p node tree))
    (node_in (parent_of q) (put p node tree)) ≡ true
unfolding IsLawfulTree
law_there p [] node tree ne lawful may = ap is_dir (node_put_apart p [] node tree ne) ∙ lawful []
law_there p (name ∷ rest) node tree ne lawful may =
    ⊎_elim
    (λ e. (λ i. law_at (name ∷ rest) (node_put_apart p (name ∷ rest) node tree ne i)
    ((ap (λ k. node_in k (put p node tree)) e ∙ node_put p node tree) i))
    ∙ below_after p name rest node tree e (lawful (name ∷ rest))
    (both_true (law_at p node (node_in (parent_of p) tree)) _ may))
    (λ apart. (λ i. law_at (name ∷ rest) (node_put_apart p (name ∷ rest) node tree ne i)
    (node_put_apart p (parent_of (name ∷ rest)) node tree apart i)) ∙ lawful (name ∷ rest))
    (same_or_apart (parent_of (name ∷ rest)) p)

-- a change that passes the test keeps a lawful tree lawful
pub lawful_put : (p : PathValue) (node : Node) (tree : Tree) → IsLawfulTree tree → may_put p node tree ≡ true
    → IsLawfulTree (put p node tree)
unfolding IsLawfulTree
lawful_put p node tree lawful may q =
    ⊎_elim
    (λ e. ap (λ k. law_at k (node_in k (put p node tree)) (node_in (parent_of k) (put p node tree))) e
    ∙ law_here p node tree ∙ first_true (law_at p node (node_in (parent_of p) tree)) _ may)
    (λ ne. law_there p q node tree ne lawful may)
    (same_or_apart q p)

-- ---- and back: a change that leaves a lawful tree passes the test
child_needs_dir : (p q : PathValue) (node : Node) (tree : Tree) → is_child p q ≡ true
    → finmap.contains_key tree q ≡ true → IsLawfulTree (put p node tree) → is_dir node ≡ true
unfolding IsLawfulTree
child_needs_dir p [] node tree e there lawful = absurd (true≢false (sym e ∙ not_own_child p))
child_needs_dir p (name ∷ rest) node tree e there lawful =
    let up = parent_of_child p (name ∷ rest) e in
    let ne : name ∷ rest ≢ p = λ same. apart_from_parent name rest (up ∙ sym same) in
    let law = (λ i. law_at (name ∷ rest) (sym (node_put_apart p (name ∷ rest) node tree ne) i)
    (sym (ap (λ k. node_in k (put p node tree)) up ∙ node_put p node tree) i)) ∙ lawful (name ∷ rest) in
    dir_above name rest (node_in (name ∷ rest) tree) node (there_of_key tree (name ∷ rest) there) law

childless : (p : PathValue) (node : Node) (tree : Tree) (b : Bool) → has_child p tree ≡ b
    → IsLawfulTree (put p node tree) → (is_dir node || not b) ≡ true
unfolding has_child
childless p node tree true h lawful =
    let some = some_child p (finmap.keys tree) h in
    ap (λ b. b || false) (child_needs_dir p some.0 node tree some.1 (finmap.contains_key-keys tree some.0
    ∙ some.2) lawful)
childless p Missing tree false h lawful = refl
childless p Dir tree false h lawful = refl
childless p (File bytes) tree false h lawful = refl

pub may_put_back : (p : PathValue) (node : Node) (tree : Tree) → IsLawfulTree (put p node tree)
    → may_put p node tree ≡ true
unfolding IsLawfulTree
may_put_back p node tree lawful =
    and_true _ _ (sym (law_here p node tree) ∙ lawful p) (childless p node tree (has_child p tree) refl lawful)

-- ---- growths
parent_is_dir : (p q : PathValue) (tree : Tree) → is_child p q ≡ true → finmap.contains_key tree q ≡ true
    → IsLawfulTree tree → is_dir (node_in p tree) ≡ true
unfolding IsLawfulTree
parent_is_dir p [] tree e there lawful = absurd (true≢false (sym e ∙ not_own_child p))
parent_is_dir p (name ∷ rest) tree e there lawful =
    let law = (λ i. law_at (name ∷ rest) (node_in (name ∷ rest) tree)
    (node_in (sym (parent_of_child p (name ∷ rest) e) i) tree)) ∙ lawful (name ∷ rest) in
    dir_above name rest (node_in (name ∷ rest) tree) (node_in p tree) (there_of_key tree (name ∷ rest) there) law

-- in a lawful tree only directories have children
pub none_below_file : (p : PathValue) (tree : Tree) → IsLawfulTree tree → is_dir (node_in p tree) ≡ false
    → has_child p tree ≡ false
unfolding has_child
none_below_file p tree lawful h = go (has_child p tree) refl
  where
    go : (b : Bool) → has_child p tree ≡ b → b ≡ false
    go true e = let some = some_child p (finmap.keys tree) e in
        absurd (true≢false
        (sym (parent_is_dir p some.0 tree some.1 (finmap.contains_key-keys tree some.0 ∙ some.2) lawful) ∙ h))
    go false e = refl

-- so a growth needs no look below
pub lawful_growth : (p : PathValue) (bytes : List ℕ) (tree : Tree) → IsLawfulTree tree → is_dir (node_in p tree)
    ≡ false → law_at p (grown bytes (node_in p tree)) (node_in (parent_of p) tree) ≡ true
    → IsLawfulTree (put p (grown bytes (node_in p tree)) tree)
lawful_growth p bytes tree lawful h law =
    lawful_put p (grown bytes (node_in p tree)) tree lawful
    (and_true _ _ law (or_last (is_dir (grown bytes (node_in p tree))) _
    (ap not (none_below_file p tree lawful h))))

-- a node that was put is lawful at its path if the tree is lawful
pub law_after : (p : PathValue) (node : Node) (tree : Tree) → IsLawfulTree (put p node tree)
    → law_at p node (node_in (parent_of p) tree) ≡ true
unfolding IsLawfulTree
law_after p node tree lawful = sym (law_here p node tree) ∙ lawful p

pub growing : (p : PathValue) (bytes : List ℕ) (tree : Tree) → IsLawfulTree tree → may_grow p bytes tree ≡ true
    → IsLawfulTree (put p (grown bytes (node_in p tree)) tree)
growing p bytes tree lawful may =
    lawful_growth p bytes tree lawful (not_true _ (first_true (not (is_dir (node_in p tree))) _ may))
    (both_true (not (is_dir (node_in p tree))) _ may)
