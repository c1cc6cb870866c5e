-- A path is below a directory if the directory is the root or one of the path's prefixes.
use Rattle.std.proofs.Common.{◌≡◌, ◌∙◌, ℕ, Bool, true, false, cond, ◌&&◌, ◌||◌, refl, sym, ap, List}
use Rattle.std.proofs.Common.{[], ◌∷◌, ◌++◌, map, ◌+◌, ◌<◌, take, length, get_or}
use Rattle.std.specs.Prelude.{None, is_some, if◌then◌else◌}
use Rattle.std.specs.BTreeSet.{BTreeSet, contains}
use Rattle.std.specs.List.{list_any}
use Rattle.std.specs.Ordering.{eq_by_cmp}
use Rattle.std.proofs.lemmas.List.{take_more}
use Rattle.retro_path.specs.Order.{path_cmp, path_eq, path_ties, text_eq}
use Rattle.retro_path.specs.Path.{PathValue, below, prefixes_of}
use Rattle.casebook_needs.specs.Needs.{is_below_any}
use Rattle.casebook_needs.specs.inner.Sets.{HasPaths}

-- ---- lists of tests

or_swap : (a b c : Bool) → (a || (b || c)) ≡ (b || (a || c))
or_swap true true c = refl
or_swap true false c = refl
or_swap false b c = refl

or_among : (a b c d : Bool) → ((a || b) || (c || d)) ≡ ((a || c) || (b || d))
or_among true b c d = refl
or_among false b true d = or_swap b true d
or_among false b false d = refl

any_none : {A : Type 0} (xs : List A) → list_any (λ x. false) xs ≡ false
any_none [] = refl
any_none (x ∷ xs) = any_none xs

any_same : {A : Type 0} (f g : A → Bool) → ((x : A) → f x ≡ g x) → (xs : List A)
    → list_any f xs ≡ list_any g xs
any_same f g same [] = refl
any_same f g same (x ∷ xs) = ap (λ b. b || list_any f xs) (same x)
    ∙ ap (λ b. g x || b) (any_same f g same xs)

any_map : {A B : Type 0} (f : B → Bool) (h : A → B) (xs : List A)
    → list_any f (map h xs) ≡ list_any (λ x. f (h x)) xs
any_map f h [] = refl
any_map f h (x ∷ xs) = ap (λ b. f (h x) || b) (any_map f h xs)

any_either : {A : Type 0} (f g : A → Bool) (xs : List A)
    → list_any (λ x. f x || g x) xs ≡ (list_any f xs || list_any g xs)
any_either f g [] = refl
any_either f g (x ∷ xs) =
    ap (λ b. (f x || g x) || b) (any_either f g xs) ∙ or_among (f x) (g x) (list_any f xs)
    (list_any g xs)

any_swapped : {A B : Type 0} (r : A → B → Bool) (xs : List A) (ys : List B)
    → list_any (λ x. list_any (r x) ys) xs ≡ list_any (λ y. list_any (λ x. r x y) xs) ys
any_swapped r [] ys = sym (any_none ys)
any_swapped r (x ∷ xs) ys =
    ap (λ b. list_any (r x) ys || b) (any_swapped r xs ys)
    ∙ sym (any_either (r x) (λ y. list_any (λ z. r z y) xs) ys)

pub any_more : {A : Type 0} (f : A → Bool) (xs : List A) (x : A)
    → list_any f (xs ++ x ∷ []) ≡ (f x || list_any f xs)
any_more f [] x = refl
any_more f (y ∷ xs) x = ap (λ b. f y || b) (any_more f xs x) ∙ or_swap (f y) (f x) (list_any f xs)

-- ---- prefixes

-- the root and the other prefixes
abbrev prefixes : PathValue → List PathValue
prefixes p = [] ∷ prefixes_of p

is_prefix : (d p : PathValue) → is_some (below d p) ≡ list_any (path_eq d) (prefixes p)
is_prefix [] p = refl
is_prefix (x ∷ d) [] = refl
is_prefix (x ∷ d) (y ∷ p) =
    by_test (text_eq x y) (is_prefix d p)
    ∙ sym (any_map (path_eq (x ∷ d)) (λ q. y ∷ q) (prefixes p))
  where
    by_test : (b : Bool) → is_some (below d p) ≡ list_any (path_eq d) (prefixes p)
        → is_some (if b then below d p else None) ≡ list_any (λ q. b && path_eq d q) (prefixes p)
    by_test true e = e
    by_test false e = sym (any_none (prefixes p))

-- whether a path is below one of the directories of a set
pub below_by_prefixes : (set : BTreeSet PathValue) (dirs : List PathValue) (p : PathValue)
    → HasPaths set dirs → list_any (contains path_cmp set) (prefixes p) ≡ is_below_any dirs p
below_by_prefixes set dirs p has =
    any_same (contains path_cmp set) (λ q. list_any (λ d. path_eq d q) dirs) has (prefixes p)
    ∙ sym (any_swapped path_eq dirs (prefixes p))
    ∙ sym (any_same (λ d. is_some (below d p)) (λ d. list_any (path_eq d) (prefixes p))
    (λ d. is_prefix d p) dirs)

pub below_root : (set : BTreeSet PathValue) (dirs : List PathValue) (p : PathValue)
    → contains path_cmp set [] ≡ true → HasPaths set dirs → true ≡ is_below_any dirs p
below_root set dirs p root has =
    sym (ap (λ b. b || list_any (contains path_cmp set) (prefixes_of p)) root)
    ∙ below_by_prefixes set dirs p has

pub below_other : (set : BTreeSet PathValue) (dirs : List PathValue) (p : PathValue)
    → contains path_cmp set [] ≡ false → HasPaths set dirs
    → list_any (contains path_cmp set) (prefixes_of p) ≡ is_below_any dirs p
below_other set dirs p root has =
    sym (ap (λ b. b || list_any (contains path_cmp set) (prefixes_of p)) root)
    ∙ below_by_prefixes set dirs p has

-- ---- sets as they grow

grown : (before after : BTreeSet PathValue) (paths : List PathValue) (k : PathValue)
    → ((q : PathValue) → contains path_cmp after q ≡ cond (eq_by_cmp path_cmp k q) true
    (contains path_cmp before q))
    → HasPaths before paths → HasPaths after (paths ++ k ∷ [])
grown before after paths k updates has q =
    updates q ∙ ap (λ b. cond b true (contains path_cmp before q)) (sym (path_ties k q))
    ∙ as_or (path_eq k q) (contains path_cmp before q)
    ∙ ap (λ b. path_eq k q || b) (has q)
    ∙ sym (any_more (λ p. path_eq p q) paths k)
  where
    as_or : (a b : Bool) → cond a true b ≡ (a || b)
    as_or true b = refl
    as_or false b = refl

-- a set of the first paths, with the next one
pub set_more : (before after : BTreeSet PathValue) (paths : List PathValue) (i : ℕ) (k : PathValue)
    → i < length paths → k ≡ get_or paths i k
    → ((q : PathValue) → contains path_cmp after q ≡ cond (eq_by_cmp path_cmp k q) true
    (contains path_cmp before q))
    → HasPaths before (take i paths) → HasPaths after (take (i + 1) paths)
set_more before after paths i k lt at updates has q =
    grown before after (take i paths) k updates has q
    ∙ ap (λ x. list_any (λ p. path_eq p q) (take i paths ++ x ∷ [])) at
    ∙ ap (list_any (λ p. path_eq p q)) (sym (take_more paths i k lt))
