-- Sets of paths, with one path more or less.
use Rattle.std.proofs.Common.{◌≡◌, ◌∙◌, Bool, true, false, List, [], ◌∷◌, Result, Ok, Err, IfOk, ap, cond, not, refl, sym}
use Rattle.std.specs.Prelude.{◌||◌, ◌&&◌}
use Rattle.std.specs.BTreeMap.{is_at}
use Rattle.std.specs.List.Sorted.{IsStrictlySortedBy}
use Rattle.retro_keep.specs.Recording.{RecordingValue}
use Rattle.retro_tree.specs.Order.{path_cmp, path_eq, path_equiv, path_ties}
use Rattle.retro_tree.specs.Path.{PathValue}
use Rattle.casebook_profile.specs.declared.unknown_line.UnknownLine.{UnknownLine}
use Rattle.casebook_summary.specs.Doubts.{AreUndecided, is_named, is_written_for_real}
use Rattle.retro_redo.proofs.AlteredPaths.{path_added, path_known}
use Rattle.casebook_summary.specs.inner.PathSets.{has_path}

or_nothing : (a b c : Bool) → b ≡ c → (a || (b || false)) ≡ (a || c)
or_nothing true b c e = refl
or_nothing false true c e = e
or_nothing false false c e = e

at_path : (p q : PathValue) → is_at (path_cmp p) q ≡ path_eq p q
at_path p q = sym (path_ties p q)

-- the path is added
pub added_path : (old new : List PathValue) (path twin : PathValue) → twin ≡ path
    → ((q : PathValue) → has_path q new ≡ cond (is_at (path_cmp twin) q) true (has_path q old)) → (p : PathValue)
    → has_path p new ≡ (has_path p old || path_eq p path)
added_path old new path twin same updates p =
    path_added old new path twin same updates p
    ∙ or_nothing (has_path p old) (is_at (path_cmp p) path) (path_eq p path) (at_path p path)

-- the path was there
pub known_path : (old : List PathValue) (path : PathValue) → has_path path old ≡ true → (p : PathValue)
    → has_path p old ≡ (has_path p old || path_eq p path)
known_path old path known p =
    path_known old path known p
    ∙ or_nothing (has_path p old) (is_at (path_cmp p) path) (path_eq p path) (at_path p path)

gone : (b x : Bool) → cond b false x ≡ (x && not b)
gone true true = refl
gone true false = refl
gone false true = refl
gone false false = refl

-- the path is removed
pub removed_path : (old new : List PathValue) (path : PathValue)
    → ((q : PathValue) → has_path q new ≡ cond (is_at (path_cmp path) q) false (has_path q old)) → (p : PathValue)
    → has_path p new ≡ (has_path p old && not (path_eq p path))
removed_path old new path updates p =
    updates p ∙ gone (is_at (path_cmp path) p) (has_path p old)
    ∙ ap (λ b. has_path p old && not b) (at_path path p ∙ path_equiv.symm path p)

same_names : (p : PathValue) (paths : List PathValue) → is_named p paths ≡ has_path p paths
same_names p [] = refl
same_names p (q ∷ paths) =
    ap (λ b. b || is_named p paths) (sym (at_path p q)) ∙ ap (λ b. is_at (path_cmp p) q || b) (same_names p paths)

-- the paths of a set, in order, are those of which it isn't known what they would be
pub undecided_keys : {V E : Type 0} (items : V → List PathValue) (result : Result V E) (r repaired : RecordingValue)
    (unknown : List UnknownLine) (changed given keys : List PathValue)
    → ((p : PathValue) → has_path p given ≡ is_written_for_real r repaired unknown p)
    → ((p : PathValue) → has_path p keys ≡ (has_path p given && not (is_named p changed)))
    → IfOk result (λ found. items found ≡ keys) → IfOk result (λ found. IsStrictlySortedBy path_cmp (items found))
    → IfOk result (λ found. AreUndecided r repaired unknown changed (items found))
undecided_keys items (Ok found) r repaired unknown changed given keys written without are sorted = record {
  sorted = sorted;
  exact = λ p. same_names p (items found) ∙ ap (has_path p) are ∙ without p
      ∙ ap (λ b. b && not (is_named p changed)) (written p);
}
undecided_keys items (Err e) r repaired unknown changed given keys written without are sorted = tt
