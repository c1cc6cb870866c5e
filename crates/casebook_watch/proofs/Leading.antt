-- The changes between two looks lead from the one to the other.
use Rattle.std.proofs.Common.{◌≡◌, ◌∙◌, Bool, true, false, cond, not, ◌||◌, List, [], ◌∷◌, ◌++◌}
use Rattle.std.proofs.Common.{map}
use Rattle.std.proofs.Common.{Option, Some, None, is_none, refl, sym, ap}
use Rattle.std.specs.List.{AllByRecursion, filter, list_any}
use Rattle.std.specs.FinMap as finmap
use Rattle.retro_path.specs.Order.{path_eq, path_exact, path_ties, path_total}
use Rattle.retro_path.specs.Path.{PathValue}
use Rattle.retro_tree.proofs.Small.{tied}
use Rattle.casebook_watch.specs.Sight.{sight_eq}
use Rattle.casebook_watch.specs.Sights.{Sights}
use Rattle.casebook_watch.specs.Seen.{is_gone, passes, passes_from}
use Rattle.casebook_watch.specs.Delta.{after_changes, delta, is_other, new_sight, no_sight}
use Rattle.casebook_watch.specs.Delta.{with_change, with_sight}
use Rattle.casebook_watch.specs.declared.sight.Sight.{Sight}
use Rattle.casebook_watch.specs.declared.sight_change.SightChange.{SightChange}
use Rattle.casebook_watch.proofs.Alike.{sights_same}
use Rattle.casebook_watch.proofs.Naming.{Entry, any_of_map, each_found, has_path, named_where}
use Rattle.casebook_watch.proofs.Naming.{passes_at}

-- ---- what changes leave at a path

-- a change gives the sight that a path has after
abbrev pub IsRight : Sights → SightChange → Type 0
IsRight after c = c.sight ≡ finmap.get after c.path

-- whether one of some changes is of a path
abbrev pub has_change : PathValue → List SightChange → Bool
has_change q = list_any (λ c. path_eq q c.path)

changed_at : (m : Sights) (p : PathValue) (x : Option Sight) (q : PathValue)
    → finmap.get (with_sight p x m) q ≡ cond (path_eq q p) x (finmap.get m q)
changed_at m p None q =
    finmap.get-remove path_total m p q
    ∙ ap (λ b. cond b None (finmap.get m q)) (sym (path_ties q p))
changed_at m p (Some s) q =
    finmap.get-insert path_total m p s q
    ∙ ap (λ b. cond b (Some s) (finmap.get m q)) (sym (path_ties q p))

right_at : (after : Sights) (c : SightChange) (q : PathValue) (x : Option Sight) → IsRight after c
    → (b : Bool) → path_eq q c.path ≡ b → cond b c.sight x ≡ cond b (finmap.get after q) x
right_at after c q x right true e =
    right ∙ ap (finmap.get after) (sym (path_exact q c.path (tied _ (sym (path_ties q c.path)
    ∙ e))))
right_at after c q x right false e = refl

either : {A : Type 0} (a b : Bool) (x y : A) → cond b x (cond a x y) ≡ cond (a || b) x y
either true true x y = refl
either true false x y = refl
either false b x y = refl

-- right changes leave what the path has after, if one is of the path
pub right_changes : (after m : Sights) (cs : List SightChange) → AllByRecursion (IsRight after) cs
    → (q : PathValue)
    → finmap.get (after_changes m cs) q
    ≡ cond (has_change q cs) (finmap.get after q) (finmap.get m q)
right_changes after m [] h q = refl
right_changes after m (c ∷ cs) h q =
    right_changes after (with_change m c) cs h.1 q
    ∙ ap (cond (has_change q cs) (finmap.get after q)) (changed_at m c.path c.sight q
    ∙ right_at after c q (finmap.get m q) h.0 (path_eq q c.path) refl)
    ∙ either (path_eq q c.path) (has_change q cs) (finmap.get after q) (finmap.get m q)

one_after_the_other : (m : Sights) (cs ds : List SightChange)
    → after_changes m (cs ++ ds) ≡ after_changes (after_changes m cs) ds
one_after_the_other m [] ds = refl
one_after_the_other m (c ∷ cs) ds = one_after_the_other (with_change m c) cs ds

-- ---- the changes between two looks

right_new : (after : Sights) (t : Entry → Bool) (es : List Entry)
    → AllByRecursion (λ e. finmap.get after e.0 ≡ Some e.1) es
    → AllByRecursion (IsRight after) (map new_sight (filter t es))
right_new after t [] h = tt
right_new after t (e ∷ es) h =
    elim (t e) as (λ b. AllByRecursion (IsRight after) (map new_sight (cond b (e ∷ filter t es)
    (filter t es)))) [
      | true ↦ (sym h.0, right_new after t es h.1)
      | false ↦ right_new after t es h.1
    ]

no_sight_of : (x : Option Sight) → is_none x ≡ true → None ≡ x
no_sight_of None e = refl
no_sight_of (Some s) e = cc

right_gone : (after : Sights) (es : List Entry)
    → AllByRecursion (IsRight after) (map no_sight (filter (is_gone after) es))
right_gone after [] = tt
right_gone after (e ∷ es) =
    elim (is_gone after e) as (λ b. is_gone after e ≡ b → AllByRecursion (IsRight after)
    (map no_sight (cond b (e ∷ filter (is_gone after) es) (filter (is_gone after) es)))) [
      | true ↦ λ k. (no_sight_of (finmap.get after e.0) k, right_gone after es)
      | false ↦ λ k. right_gone after es
    ] refl

-- what a path has before and after decides whether it is named, and so what it is left with
one_sight : (x y : Sight) (b : Bool) → sight_eq x y ≡ b → cond (not b) (Some y) (Some x) ≡ Some y
one_sight x y true e = ap Some (sights_same x y e)
one_sight x y false e = refl

abbrev pub gone_at : Option Sight → Option Sight → Bool
gone_at None y = false
gone_at (Some x) y = is_none y

left_with : (x y : Option Sight) → cond (gone_at x y) y (cond (passes is_other x y) y x) ≡ y
left_with None None = refl
left_with None (Some y) = refl
left_with (Some x) None = refl
left_with (Some x) (Some y) = one_sight x y (sight_eq x y) refl

passes_before : (before : Sights) (test : Option Sight → Sight
    → Bool) (q : PathValue) (y : Option Sight)
    → passes_at (passes_from test before) q y ≡ passes test (finmap.get before q) y
passes_before before test q None = refl
passes_before before test q (Some y) = refl

gone_after : (after : Sights) (q : PathValue) (x : Option Sight)
    → passes_at (is_gone after) q x ≡ gone_at x (finmap.get after q)
gone_after after q None = refl
gone_after after q (Some x) = refl

-- a path is among those that pass exactly if its sights do
pub is_where : (test : Option Sight → Sight → Bool) (before after : Sights) (q : PathValue)
    → has_path q (filter (passes_from test before) (finmap.entries after))
    ≡ passes test (finmap.get before q) (finmap.get after q)
is_where test before after q =
    named_where (passes_from test before) q (finmap.entries after) (finmap.entries_sorted after)
    ∙ ap (passes_at (passes_from test before) q) (sym (finmap.get-entries after q))
    ∙ passes_before before test q (finmap.get after q)

pub is_gone_exactly : (before after : Sights) (q : PathValue)
    → has_path q (filter (is_gone after) (finmap.entries before))
    ≡ gone_at (finmap.get before q) (finmap.get after q)
is_gone_exactly before after q =
    named_where (is_gone after) q (finmap.entries before) (finmap.entries_sorted before)
    ∙ ap (passes_at (is_gone after) q) (sym (finmap.get-entries before q))
    ∙ gone_after after q (finmap.get before q)

pub delta_leads : (before after : Sights) → after_changes before (delta before after) ≡ after
delta_leads before after =
    let found = passes_from is_other before in
    let newer = map new_sight (filter found (finmap.entries after)) in
    let gone = map no_sight (filter (is_gone after) (finmap.entries before)) in
    let all_found = each_found (finmap.get after) (finmap.entries after)
    (λ p x is. finmap.get-entries after p ∙ is)
    (finmap.entries_sorted after) in
    finmap.same_map path_total path_exact _ _ (λ q.
    ap (λ m. finmap.get m q) (one_after_the_other before newer gone)
    ∙ right_changes after (after_changes before newer) gone (right_gone after
    (finmap.entries before)) q
    ∙ ap (cond (has_change q gone) (finmap.get after q))
    (right_changes after before newer (right_new after found (finmap.entries after) all_found) q)
    ∙ (λ i. cond ((any_of_map (λ c. path_eq q c.path) no_sight (filter (is_gone after)
    (finmap.entries before))
    ∙ is_gone_exactly before after q) i) (finmap.get after q)
    (cond ((any_of_map (λ c. path_eq q c.path) new_sight (filter found (finmap.entries after))
    ∙ is_where is_other before after q) i) (finmap.get after q) (finmap.get before q)))
    ∙ left_with (finmap.get before q) (finmap.get after q))
