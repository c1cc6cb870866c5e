-- Of the paths in which two trees differ, those that are covered.
use Rattle.std.proofs.Common.{◌≡◌, ◌∙◌, Bool, true, false, ◌&&◌, List, [], ◌∷◌, map, Option, Some, None, cond}
use Rattle.std.proofs.Common.{not, refl, sym, ap, subst}
use Rattle.std.specs.Prelude.{is_some}
use Rattle.std.specs.List.{AllByRecursion, filter, list_any}
use Rattle.std.specs.List.Sorted.{IsStrictlySortedBy}
use Rattle.std.specs.declared.cmp.Ordering.TheVariants.{Less}
use Rattle.retro_path.specs.Order.{path_cmp, path_eq, path_exact, path_ties}
use Rattle.retro_path.specs.Path.{PathValue, below, prefixes_of}
use Rattle.retro_tree.specs.Tree.{Tree, node_in}
use Rattle.retro_tree.proofs.Small.{both_true, first_true, none_some, tied}
use Rattle.casebook_changes.specs.ChangedPaths.{AreChangedPaths, IsChange, change_at, path_in}
use Rattle.casebook_changes.specs.declared.changed_path.ChangedPath.{ChangedPath}
use Rattle.casebook_changes.specs.declared.changed_path.PathChange.{PathChange}
use Rattle.casebook_snapshot.specs.Snapshots.{node_at}
use Rattle.casebook_snapshot.specs.declared.snapshot.Snapshot.{Snapshot}
use Rattle.casebook_compare.specs.Comparison.{AreDifferent, IsTreeOf}
use Rattle.casebook_compare.specs.Coverage.{is_covered, is_listed}
use Rattle.casebook_compare.specs.inner.PathSets.{has_path, is_covered_by}

-- the changes of paths that pass a test
abbrev pub kept : (PathValue → Bool) → List ChangedPath → List ChangedPath
kept test = filter (λ c. test c.path)

-- ---- order

all_kept : (test : PathValue → Bool) (p : PathValue) (cs : List ChangedPath)
    → AllByRecursion (λ q. path_cmp p q ≡ Less) (map path_in cs)
    → AllByRecursion (λ q. path_cmp p q ≡ Less) (map path_in (kept test cs))
all_kept test p [] all = all
all_kept test p (c ∷ cs) all = by_test (test c.path) (all_kept test p cs all.1)
  where
    by_test : (b : Bool) → AllByRecursion (λ q. path_cmp p q ≡ Less) (map path_in (kept test cs))
        → AllByRecursion (λ q. path_cmp p q ≡ Less) (map path_in (cond b (c ∷ kept test cs) (kept test cs)))
    by_test true rest = (all.0, rest)
    by_test false rest = rest

sorted_kept : (test : PathValue → Bool) (cs : List ChangedPath) → IsStrictlySortedBy path_cmp (map path_in cs)
    → IsStrictlySortedBy path_cmp (map path_in (kept test cs))
unfolding IsStrictlySortedBy
sorted_kept test [] sorted = sorted
sorted_kept test (c ∷ cs) sorted = by_test (test c.path) (sorted_kept test cs sorted.1)
  where
    by_test : (b : Bool) → IsStrictlySortedBy path_cmp (map path_in (kept test cs))
        → IsStrictlySortedBy path_cmp (map path_in (cond b (c ∷ kept test cs) (kept test cs)))
    by_test true rest = (all_kept test c.path cs sorted.0, rest)
    by_test false rest = rest

-- ---- changes of paths

same_path : (p q : PathValue) → path_eq p q ≡ true → p ≡ q
same_path p q e = path_exact p q (tied _ (sym (path_ties p q) ∙ e))

no_change : (b : Bool) → ◌≡◌ {A = Option PathChange} (cond b None None) None
no_change true = refl
no_change false = refl

change_kept : (test : PathValue → Bool) (p : PathValue) (cs : List ChangedPath)
    → change_at p (kept test cs) ≡ cond (test p) (change_at p cs) None
change_kept test p [] = sym (no_change (test p))
change_kept test p (c ∷ cs) =
    by_tests (test c.path) (path_eq p c.path) refl refl (change_kept test p cs)
  where
    by_tests : (b here : Bool) → test c.path ≡ b → path_eq p c.path ≡ here
        → change_at p (kept test cs) ≡ cond (test p) (change_at p cs) None
        → change_at p (cond b (c ∷ kept test cs) (kept test cs))
        ≡ cond (test p) (cond here (Some c.change) (change_at p cs)) None
    by_tests true true t h later =
        ap (λ x. cond x (Some c.change) (change_at p (kept test cs))) h
        ∙ sym (ap (λ x. cond x (Some c.change) None) (ap test (same_path p c.path h) ∙ t))
    by_tests true false t h later = ap (λ x. cond x (Some c.change) (change_at p (kept test cs))) h ∙ later
    by_tests false true t h later =
        let out : test p ≡ false = ap test (same_path p c.path h) ∙ t in
        later ∙ ap (λ x. cond x (change_at p cs) None) out ∙ sym (ap (λ x. cond x (Some c.change) None) out)
    by_tests false false t h later = later

-- a change of a path that passes is one that is kept
passed : (b : Bool) (o : Option PathChange) (change : PathChange) → cond b o None ≡ Some change
    → (b ≡ true) × (o ≡ Some change)
passed true o change e = (refl, e)
passed false o change e = absurd (none_some change e)

-- ---- what is covered

covered_alike : (at : PathValue) (s : Snapshot) (keys : List PathValue)
    → ((p : PathValue) → has_path p keys ≡ is_listed s.skipped.items p) → (q : PathValue)
    → is_covered_by at keys q ≡ is_covered at s.skipped.items q
covered_alike at s keys same q =
    ap (λ (test : PathValue → Bool). is_some (below at q) && not (list_any test (prefixes_of q))) (λ i p. same p i)

pub are_different : (recorded : Tree) (s : Snapshot) (at : PathValue) (folder : Tree) (keys : List PathValue)
    (changed found : List ChangedPath) → IsTreeOf s.rows folder
    → ((p : PathValue) → has_path p keys ≡ is_listed s.skipped.items p) → AreChangedPaths recorded folder changed
    → found ≡ filter (λ c. is_covered_by at keys c.path) changed → AreDifferent recorded s at found
are_different recorded s at folder keys changed found is_tree same are is =
    let test : PathValue → Bool = is_covered at s.skipped.items in
    let is_kept : found ≡ kept test changed =
    is ∙ ap (λ (t : PathValue → Bool). filter (λ c. t c.path) changed) (λ i q. covered_alike at s keys same q i) in
    subst (AreDifferent recorded s at) (sym is_kept) (record {
      sorted = sorted_kept test changed are.sorted;
      exact = λ p change. (
        λ e.
            let parts = passed (test p) (change_at p changed) change (sym (change_kept test p changed) ∙ e) in
            (parts.0, subst (IsChange change (node_in p recorded)) (is_tree p) ((are.exact p change).0 parts.1)),
        λ h.
            change_kept test p changed
            ∙ ap (λ b. cond b (change_at p changed) None) h.0
            ∙ (are.exact p change).1 (subst (IsChange change (node_in p recorded)) (sym (is_tree p)) h.1),
      );
    })
