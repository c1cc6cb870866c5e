-- The changes of the files that differ between two trees.
use Rattle.std.proofs.Common.{◌≡◌, ◌≢◌, ℕ, zero, suc, ◌+◌, ◌<◌, Bool, true, false, cond, List, []}
use Rattle.std.proofs.Common.{◌∷◌, ◌++◌, length, get_or, map, take}
use Rattle.std.proofs.Common.{Option, Some, refl, sym, ap, ◌∙◌, arith, subst}
use Rattle.std.specs.Prelude.{◌&&◌, ◌||◌, is_some}
use Rattle.std.specs.List.{All, filter}
use Rattle.std.specs.Borrow.{Bor}
use Rattle.std.proofs.lemmas.Bool.{true≢false}
use Rattle.std.proofs.lemmas.List.{map-append, take_more}
use Rattle.std.proofs.lemmas.List.Elements.{All-cons, All-head, All-nil, All-tail}
use Rattle.retro_path.specs.Order.{path_eq, path_equiv}
use Rattle.retro_path.specs.Path.{PathValue}
use Rattle.retro_tree.specs.Tree.{Tree, node_in}
use Rattle.retro_tree.specs.declared.node.Node.{Node}
use Rattle.retro_tree.specs.declared.node.Node.TheVariants.{Missing, Dir, File}
use Rattle.casebook_changes.specs.ChangedPaths.{AreChangedPaths, IsChange, change_at, path_in}
use Rattle.casebook_changes.specs.declared.changed_path.ChangedPath.{ChangedPath}
use Rattle.casebook_changes.specs.declared.changed_path.PathChange.{PathChange}
use Rattle.casebook_changes.specs.declared.changed_path.PathChange.TheVariants.{Added, Removed}
use Rattle.casebook_changes.specs.declared.changed_path.PathChange.TheVariants.{Modified}
use Rattle.casebook_patch.specs.Changes.{ChangeValue, IsChangeOf}
use Rattle.casebook_patch.specs.Trees.{IsChangeBetween, file_at, file_of, has_name, is_carried}
use Rattle.casebook_patch.specs.Trees.{paths_where}

-- ---- which files differ

abbrev FilesDiffer : Tree → Tree → PathValue → Type 0
FilesDiffer before after p = file_at p before ≢ file_at p after

abbrev NodesDiffer : Tree → Tree → PathValue → Type 0
NodesDiffer before after p = node_in p before ≢ node_in p after

unlike : (change : PathChange) (x y : Node) → IsChange change x y → x ≢ y
unlike Added x y is e = is.1 (sym e ∙ is.0)
unlike Removed x y is e = is.0 (e ∙ is.1)
unlike Modified x y is e = is.2 e

-- each path of a list has a change
named_at : (cs : List ChangedPath) (k : ℕ) (d : ChangedPath) → k < length cs
    → (change : PathChange) × (change_at (get_or cs k d).path cs ≡ Some change)
named_at [] k d lt = absurd (omega (arith, lt))
named_at (c ∷ cs) zero d lt = (c.change, rw (path_equiv.refl c.path) refl)
named_at (c ∷ cs) (suc k) d lt = by_test (path_eq (get_or cs k d).path c.path) (named_at cs k d (omega (arith, lt)))
  where
    by_test : (b : Bool) → (change : PathChange) × (change_at (get_or cs k d).path cs ≡ Some change)
        → (change : PathChange) × (cond b (Some c.change) (change_at (get_or cs k d).path cs) ≡ Some change)
    by_test true has = (c.change, refl)
    by_test false has = has

nodes_differ : (before after : Tree) (changed : List ChangedPath) → AreChangedPaths before after changed
    → All (λ (c : ChangedPath). NodesDiffer before after c.path) changed
nodes_differ before after changed are k d lt =
    let named = named_at changed k d lt in
    let p = (get_or changed k d).path in
    unlike named.0 (node_in p before) (node_in p after) ((are.exact p named.0).0 named.1)

same_node : (x y : Node) → (is_some (file_of x) || is_some (file_of y)) ≡ true → file_of x ≡ file_of y → x ≡ y
same_node Missing Missing e same = refl
same_node Missing Dir e same = absurd (true≢false (sym e))
same_node Missing (File b) e same = absurd (cc)
same_node Dir Missing e same = absurd (true≢false (sym e))
same_node Dir Dir e same = refl
same_node Dir (File b) e same = absurd (cc)
same_node (File a) Missing e same = absurd (cc)
same_node (File a) Dir e same = absurd (cc)
same_node (File a) (File b) e same = let bytes : a ≡ b = cc in ap File bytes

second_true : (a b : Bool) → (a && b) ≡ true → b ≡ true
second_true true b e = e
second_true false b e = absurd (true≢false (sym e))

all_where : (test : PathValue → Bool) (P Q : PathValue → Type 0) → ((p : PathValue) → P p → test p ≡ true → Q p)
    → (changed : List ChangedPath) → All (λ (c : ChangedPath). P c.path) changed → All Q (paths_where test changed)
all_where test P Q gives [] all = All-nil Q
all_where test P Q gives (c ∷ changed) all =
    let rest = all_where test P Q gives changed (All-tail (λ (x : ChangedPath). P x.path) c changed all) in
    elim (test c.path) as (λ b. test c.path ≡ b → All Q (map path_in (cond b (c ∷ filter (λ (x : ChangedPath). test x.path) changed) (filter (λ (x : ChangedPath). test x.path) changed)))) [
      | true ↦ (λ e. All-cons Q c.path (paths_where test changed) (gives c.path (All-head (λ (x : ChangedPath). P x.path) c changed all) e) rest)
      | false ↦ (λ e. rest)
    ] refl

pub all_differ : (before after : Tree) (changed : List ChangedPath) → AreChangedPaths before after changed
    → All (FilesDiffer before after) (paths_where (is_carried before after) changed)
all_differ before after changed are =
    all_where (is_carried before after) (NodesDiffer before after) (FilesDiffer before after)
    (λ p other e same. other
    (same_node (node_in p before) (node_in p after)
    (second_true (has_name p) (is_some (file_at p before) || is_some (file_at p after)) e) same))
    changed (nodes_differ before after changed are)

-- of borrowed paths
pub all_borrowed : (P : PathValue → Type 0) (paths : List (Bor PathValue)) → All P (map (λ path. path.now) paths)
    → All (λ (path : Bor PathValue). P path.now) paths
all_borrowed P [] all = All-nil (λ (path : Bor PathValue). P path.now)
all_borrowed P (x ∷ xs) all =
    All-cons (λ (path : Bor PathValue). P path.now) x xs (All-head P x.now (map (λ path. path.now) xs) all)
    (all_borrowed P xs (All-tail P x.now (map (λ path. path.now) xs) all))

-- ---- changes

pub change_between : (before after : Tree) (path copy : PathValue) (old new : Option (List ℕ)) (c : ChangeValue)
    → IsChangeOf copy old new c → copy ≡ path → old ≡ file_at path before → new ≡ file_at path after
    → IsChangeBetween before after c
change_between before after path copy old new c is copy_is old_is new_is =
    let at : c.path ≡ path = is.at ∙ copy_is in
    subst (λ p. IsChangeOf p (file_at p before) (file_at p after) c) (sym at)
    (subst (λ p. IsChangeOf p (file_at path before) (file_at path after) c) copy_is
    (subst (λ o. IsChangeOf copy o (file_at path after) c) old_is (subst (λ n. IsChangeOf copy old n c) new_is is)))

pub one_more_path : (paths : List (Bor PathValue)) (i : ℕ) (path : Bor PathValue) (old new : List ChangeValue) (c : ChangeValue)
    → i < length paths → path ≡ get_or paths i path → new ≡ old ++ c ∷ [] → c.path ≡ path.now
    → map (λ c. c.path) old ≡ map (λ path. path.now) (take i paths)
    → map (λ c. c.path) new ≡ map (λ path. path.now) (take (i + 1) paths)
one_more_path paths i path old new c lt item push at so_far =
    ap (map (λ c. c.path)) push
    ∙ map-append (λ (x : ChangeValue). x.path) old (c ∷ [])
    ∙ (ap (λ ps. ps ++ c.path ∷ []) so_far
    ∙ (ap (λ p. map (λ (x : Bor PathValue). x.now) (take i paths) ++ p ∷ []) (at ∙ ap (λ (x : Bor PathValue). x.now) item)
    ∙ sym (ap (map (λ (x : Bor PathValue). x.now)) (take_more paths i path lt)
    ∙ map-append (λ (x : Bor PathValue). x.now) (take i paths) (get_or paths i path ∷ []))))
