-- The items of a list, each once, as items are added to it.
use Rattle.std.proofs.Common.{◌≡◌, ◌∙◌, true, false, not, refl, sym, ap, List, [], ◌∷◌, ◌++◌}
use Rattle.std.specs.Prelude.{Bool, ◌||◌, if◌then◌else◌}
use Rattle.std.specs.List.{filter, list_any}
use Rattle.std.proofs.lemmas.List.{append-nil, append_assoc}
use Rattle.std.proofs.lemmas.List.Elements.{filter-append}
use Rattle.std.proofs.lemmas.List.Sums.{fold-append}
use Rattle.casebook_needs.specs.FirstOfEach.{first_of_each}
use Rattle.casebook_needs.specs.Needs.{same_query}
use Rattle.casebook_needs.specs.Query.{query_eq, query_exact}
use Rattle.casebook_needs.specs.declared.query.Query.{Query}
use Rattle.casebook_needs.specs.declared.source.Source.{Source}
use Rattle.casebook_needs.specs.inner.Steps.{with_item, with_items}
use Rattle.retro_tree.proofs.Small.{tied}

-- a test that tells items that it finds equal from no third item
abbrev pub IsAlike : {A : Type 0} → (A → A → Bool) → Type 0
IsAlike {A} eq = (x y z : A) → eq x y ≡ true → eq x z ≡ eq y z

pub queries_alike : IsAlike same_query
queries_alike x y z e = ap (λ q. query_eq q z.0) (query_exact x.0 y.0 (tied _ e))

-- whether an item is among others doesn't change if those equal to another item are left out
pub any_kept : {A : Type 0} (eq : A → A → Bool) → IsAlike eq → (a x : A) → eq a x ≡ false
    → (ys : List A)
    → list_any (λ y. eq y x) (filter (λ y. not (eq a y)) ys) ≡ list_any (λ y. eq y x) ys
any_kept eq alike a x other [] = refl
any_kept eq alike a x other (y ∷ ys) = by_test (eq a y) (alike a y x)
    (any_kept eq alike a x other ys)
  where
    by_test : (b : Bool) → (b ≡ true → eq a x ≡ eq y x)
        → list_any (λ z. eq z x) (filter (λ z. not (eq a z)) ys) ≡ list_any (λ z. eq z x) ys
        → list_any (λ z. eq z x) (if not b then y ∷ filter (λ z. not (eq a z)) ys else filter
        (λ z. not (eq a z)) ys)
        ≡ (eq y x || list_any (λ z. eq z x) ys)
    by_test true same rest =
        rest ∙ ap (λ b. b || list_any (λ z. eq z x) ys) (sym other ∙ same refl)
    by_test false same rest = ap (λ b. eq y x || b) rest

-- the items but those equal to a, of a list with one more item
filter_with : {A : Type 0} (eq : A → A → Bool) → IsAlike eq → (a x : A) (ys : List A)
    → a ∷ filter (λ y. not (eq a y)) (with_item eq ys x) ≡ with_item eq (a ∷ filter (λ y. not
    (eq a y)) ys) x
filter_with {A} eq alike a x ys = by_test (eq a x) refl
  where
    others : List A
    others = filter (λ y. not (eq a y)) ys

    by_any : (b : Bool) → eq a x ≡ false
        → a ∷ filter (λ y. not (eq a y)) (if b then ys else ys ++ x ∷ [])
        ≡ (if b then a ∷ others else (a ∷ others) ++ x ∷ [])
    by_any true other = refl
    by_any false other =
        ap (λ t. a ∷ t) (filter-append (λ y. not (eq a y)) ys (x ∷ []) ∙ ap (λ b. others
        ++ (if not b then x ∷ [] else [])) other)

    same_any : (b : Bool) → eq a x ≡ true → a ∷ filter (λ y. not (eq a y))
        (if b then ys else ys ++ x ∷ []) ≡ a ∷ others
    same_any true same = refl
    same_any false same =
        ap (λ t. a ∷ t) (filter-append (λ y. not (eq a y)) ys (x ∷ []) ∙ ap (λ b. others
        ++ (if not b then x ∷ [] else [])) same ∙ append-nil others)

    by_test : (b : Bool) → eq a x ≡ b
        → a ∷ filter (λ y. not (eq a y)) (with_item eq ys x)
        ≡ (if eq a x || list_any (λ y. eq y x) others then a ∷ others else (a ∷ others) ++ x ∷ [])
    by_test true e =
        same_any (list_any (λ y. eq y x) ys) e
        ∙ ap (λ b. if b || list_any (λ y. eq y x) others then a ∷ others else (a ∷ others)
        ++ x ∷ []) (sym e)
    by_test false e =
        by_any (list_any (λ y. eq y x) ys) e
        ∙ ap (λ b. if b then a ∷ others else (a ∷ others) ++ x ∷ []) (sym
        (any_kept eq alike a x e ys))
        ∙ ap (λ b. if b || list_any (λ y. eq y x) others then a ∷ others else (a ∷ others)
        ++ x ∷ []) (sym e)

pub one_more : {A : Type 0} (eq : A → A → Bool) → IsAlike eq → (xs : List A) (x : A)
    → first_of_each eq (xs ++ x ∷ []) ≡ with_item eq (first_of_each eq xs) x
one_more eq alike [] x = refl
one_more eq alike (a ∷ xs) x =
    ap (λ t. a ∷ filter (λ y. not (eq a y)) t) (one_more eq alike xs x)
    ∙ filter_with eq alike a x (first_of_each eq xs)

-- items added one after the other
more : {A : Type 0} (eq : A → A → Bool) → IsAlike eq → (xs ys : List A)
    → with_items eq (first_of_each eq xs) ys ≡ first_of_each eq (xs ++ ys)
more eq alike xs [] = ap (first_of_each eq) (sym (append-nil xs))
more eq alike xs (y ∷ ys) =
    ap (λ t. with_items eq t ys) (sym (one_more eq alike xs y))
    ∙ more eq alike (xs ++ y ∷ []) ys
    ∙ ap (first_of_each eq) (append_assoc xs (y ∷ []) ys)

pub all_items : (xs : List (Query × Source)) → with_items same_query [] xs
    ≡ first_of_each same_query xs
all_items xs = more same_query queries_alike [] xs

-- more items after some
pub in_turn : (old xs ys : List (Query × Source))
    → with_items same_query old (xs ++ ys) ≡ with_items same_query (with_items same_query old xs) ys
in_turn old xs ys = fold-append (with_item same_query) old xs ys
