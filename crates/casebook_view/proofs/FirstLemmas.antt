-- The items of a list, each once, as a list grows.
use Rattle.std.proofs.Common.{◌≡◌, ℕ, ◌+◌, ◌<◌, true, false, not, refl, sym, ap, ◌∙◌, List, [], ◌∷◌, ◌++◌, get_or, length, map, take, Option, Some, None}
use Rattle.std.specs.Prelude.{Bool, ◌||◌, if◌then◌else◌}
use Rattle.std.specs.List.{filter, list_any}
use Rattle.std.proofs.lemmas.List.{append-nil, map-append, take_more}
use Rattle.std.specs.List.{filter_map}
use Rattle.std.proofs.lemmas.List.Elements.{filter-append, filter_map-append}
use Rattle.casebook_view.specs.FirstOfEach.{first_of_each, with_found, with_item}

-- a test that holds of equal items alone
abbrev pub IsExact : {A : Type 0} → (A → A → Bool) → Type 0
IsExact {A} eq = (x y : A) → eq x y ≡ true → x ≡ y

-- whether an item is among others doesn't change if those equal to another item are left out
any_kept : {A : Type 0} (eq : A → A → Bool) → IsExact eq → (a x : A) → eq a x ≡ false → (ys : List A)
    → list_any (λ y. eq y x) (filter (λ y. not (eq a y)) ys) ≡ list_any (λ y. eq y x) ys
any_kept eq exact a x other [] = refl
any_kept eq exact a x other (y ∷ ys) = by_test (eq a y) (exact a y) (any_kept eq exact a x other ys)
  where
    by_test : (b : Bool) → (b ≡ true → a ≡ y)
        → list_any (λ z. eq z x) (filter (λ z. not (eq a z)) ys) ≡ list_any (λ z. eq z x) ys
        → list_any (λ z. eq z x) (if not b then y ∷ filter (λ z. not (eq a z)) ys else filter (λ z. not (eq a z)) ys)
        ≡ (eq y x || list_any (λ z. eq z x) ys)
    by_test true same rest =
        rest ∙ ap (λ b. b || list_any (λ z. eq z x) ys) (sym (ap (λ z. eq z x) (sym (same refl)) ∙ other))
    by_test false same rest = ap (λ b. eq y x || b) rest

-- the items but those equal to a, of a list with one more item
filter_with : {A : Type 0} (eq : A → A → Bool) → IsExact eq → (a x : A) (ys : List A)
    → a ∷ filter (λ y. not (eq a y)) (with_item eq ys x) ≡ with_item eq (a ∷ filter (λ y. not (eq a y)) ys) x
filter_with {A} eq exact a x ys = by_test (eq a x) refl
  where
    others : List A
    others = filter (λ y. not (eq a y)) ys

    by_any : (b : Bool) → eq a x ≡ false
        → a ∷ filter (λ y. not (eq a y)) (if b then ys else ys ++ x ∷ []) ≡ (if b then a ∷ others else (a ∷ others) ++ x ∷ [])
    by_any true other = refl
    by_any false other =
        ap (λ t. a ∷ t) (filter-append (λ y. not (eq a y)) ys (x ∷ []) ∙ ap (λ b. others ++ (if not b then x ∷ [] else [])) other)

    same_any : (b : Bool) → eq a x ≡ true → a ∷ filter (λ y. not (eq a y)) (if b then ys else ys ++ x ∷ []) ≡ a ∷ others
    same_any true same = refl
    same_any false same =
        ap (λ t. a ∷ t) (filter-append (λ y. not (eq a y)) ys (x ∷ []) ∙ ap (λ b. others ++ (if not b then x ∷ [] else [])) same ∙ append-nil others)

    by_test : (b : Bool) → eq a x ≡ b
        → a ∷ filter (λ y. not (eq a y)) (with_item eq ys x)
        ≡ (if eq a x || list_any (λ y. eq y x) others then a ∷ others else (a ∷ others) ++ x ∷ [])
    by_test true e =
        same_any (list_any (λ y. eq y x) ys) e
        ∙ ap (λ b. if b || list_any (λ y. eq y x) others then a ∷ others else (a ∷ others) ++ x ∷ []) (sym e)
    by_test false e =
        by_any (list_any (λ y. eq y x) ys) e
        ∙ ap (λ b. if b then a ∷ others else (a ∷ others) ++ x ∷ []) (sym (any_kept eq exact a x e ys))
        ∙ ap (λ b. if b || list_any (λ y. eq y x) others then a ∷ others else (a ∷ others) ++ x ∷ []) (sym e)

pub one_more : {A : Type 0} (eq : A → A → Bool) → IsExact eq → (xs : List A) (x : A)
    → first_of_each eq (xs ++ x ∷ []) ≡ with_item eq (first_of_each eq xs) x
one_more eq exact [] x = refl
one_more eq exact (a ∷ xs) x =
    ap (λ t. a ∷ filter (λ y. not (eq a y)) t) (one_more eq exact xs x) ∙ filter_with eq exact a x (first_of_each eq xs)

-- ---- items that are found one after another

found_next : {A B : Type 0} (eq : A → A → Bool) → IsExact eq → (f : B → Option A) → (front : List B) (x : B)
    → with_found eq (first_of_each eq (filter_map f front)) (f x) ≡ first_of_each eq (filter_map f (front ++ x ∷ []))
found_next {A} {B} eq exact f front x =
    by_found (f x) refl ∙ ap (first_of_each eq) (sym (filter_map-append f front (x ∷ [])))
  where
    by_found : (o : Option A) → f x ≡ o
        → with_found eq (first_of_each eq (filter_map f front)) o ≡ first_of_each eq (filter_map f front ++ filter_map f (x ∷ []))
    by_found None e =
        ap (first_of_each eq) (sym (ap (λ t. filter_map f front ++ t) (none_found e) ∙ append-nil (filter_map f front)))
      where
        none_found : f x ≡ None → filter_map f (x ∷ []) ≡ []
        none_found e = rw e refl
    by_found (Some y) e =
        sym (one_more eq exact (filter_map f front) y) ∙ ap (λ t. first_of_each eq (filter_map f front ++ t)) (sym (one_found e))
      where
        one_found : f x ≡ Some y → filter_map f (x ∷ []) ≡ y ∷ []
        one_found e = rw e refl

-- the items found in the elements before an index, and at it
pub found_at : {A B : Type 0} (eq : A → A → Bool) → IsExact eq → (f : B → Option A) → (old new : List A) (xs : List B) (i : ℕ) (x : B)
    → i < length xs → x ≡ get_or xs i x → old ≡ first_of_each eq (filter_map f (take i xs))
    → new ≡ with_found eq old (f x) → new ≡ first_of_each eq (filter_map f (take (i + 1) xs))
found_at eq exact f old new xs i x lt at before after =
    after ∙ ap (λ t. with_found eq t (f x)) before ∙ found_next eq exact f (take i xs) x
    ∙ ap (λ t. first_of_each eq (filter_map f t)) (sym (take_more xs i x lt ∙ ap (λ t. take i xs ++ t ∷ []) (sym at)))

-- ---- elements that are kept one after another

pub kept_at : {A B : Type 0} (p : A → Bool) (f : A → B) (old new : List B) (xs : List A) (i : ℕ) (x d : A)
    → i < length xs → x ≡ get_or xs i d → old ≡ map f (filter p (take i xs))
    → new ≡ old ++ map f (filter p (x ∷ [])) → new ≡ map f (filter p (take (i + 1) xs))
kept_at p f old new xs i x d lt at before after =
    after ∙ ap (λ t. t ++ map f (filter p (x ∷ []))) before
    ∙ sym (map-append f (filter p (take i xs)) (filter p (x ∷ [])))
    ∙ ap (map f) (sym (filter-append p (take i xs) (x ∷ [])))
    ∙ ap (λ t. map f (filter p t)) (sym (take_more xs i d lt ∙ ap (λ t. take i xs ++ t ∷ []) (sym at)))
