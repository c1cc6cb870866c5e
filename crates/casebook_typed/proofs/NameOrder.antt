-- The names of sessions, in the order in which they first appear.
use Rattle.std.proofs.Common.{◌≡◌, ◌∙◌, ℕ, ◌+◌, ◌==◌, ◌||◌, Bool, true, false, cond, not, List, [], ◌∷◌, ◌++◌, length, refl, sym, ap, arith}
use Rattle.std.proofs.Common.{Option, Some, None, is_some, nat_eq}
use Rattle.std.specs.List.{filter, list_any, position_from}
use Rattle.std.specs.Option.{option_or}
use Rattle.std.specs.Ordering.{is_eq}
use Rattle.std.specs.declared.cmp.Ordering.{Ordering}
use Rattle.std.specs.declared.cmp.Ordering.TheVariants.{Less, Equal, Greater}
use Rattle.std.proofs.lemmas.Bool.{false≢true}
use Rattle.std.proofs.lemmas.Bool.Decides.{nat_tests}
use Rattle.std.proofs.lemmas.Cmp.{nat_list_eq_equiv}
use Rattle.std.proofs.lemmas.List.{append-nil, length-append}
use Rattle.std.proofs.lemmas.List.Elements.{filter-append}
use Rattle.retro_path.specs.Order.{text_eq, text_exact, text_ties}
use Rattle.casebook_typed.specs.Sessions.{after_place, first_names, place_in}
use Rattle.casebook_typed.specs.inner.Places.{with_name}
use Rattle.casebook_typed.proofs.Found.{any_found, found-snoc}

tied : (r : Ordering) → is_eq r ≡ true → r ≡ Equal
tied Less e = absurd (false≢true e)
tied Equal e = refl
tied Greater e = absurd (false≢true e)

same_text : (x y : List ℕ) → text_eq x y ≡ true → x ≡ y
same_text x y e = text_exact x y (tied _ (sym (text_ties x y) ∙ e))

-- ---- whether a name is there

above_zero : (i : ℕ) → nat_eq (i + 1) 0 ≡ false
above_zero i = grind (arith, nat_tests)

lacks : (o : Option ℕ) → (after_place o == 0) ≡ not (is_some o)
lacks None = refl
lacks (Some i) = above_zero i

no_place : (o : Option ℕ) → (after_place o == 0) ≡ true → o ≡ None
no_place None e = refl
no_place (Some i) e = absurd (false≢true (sym (above_zero i) ∙ e))

abbrev pub with_other : Bool → List (List ℕ) → List ℕ → List (List ℕ)
with_other b names name = cond b names (names ++ name ∷ [])

unless : (b : Bool) (names : List (List ℕ)) (name : List ℕ) → cond (not b) (names ++ name ∷ []) names ≡ with_other b names name
unless true names name = refl
unless false names name = refl

pub with_name-any : (names : List (List ℕ)) (name : List ℕ)
    → with_name names name ≡ with_other (list_any (text_eq name) names) names name
with_name-any names name =
    ap (λ b. cond b (names ++ name ∷ []) names) (lacks (position_from (text_eq name) 0 names)
    ∙ ap not (sym (any_found (text_eq name) 0 names)))
    ∙ unless (list_any (text_eq name) names) names name

-- ---- the names of a list with one more

others : (x y : List ℕ) → text_eq x y ≡ false → (zs : List (List ℕ))
    → list_any (text_eq x) (filter (λ z. not (text_eq y z)) zs) ≡ list_any (text_eq x) zs
others x y ne [] = refl
others x y ne (z ∷ zs) =
    elim (text_eq y z) as (λ b. text_eq y z ≡ b
    → list_any (text_eq x) (cond (not b) (z ∷ filter (λ w. not (text_eq y w)) zs) (filter (λ w. not (text_eq y w)) zs))
    ≡ (text_eq x z || list_any (text_eq x) zs)) [
      | true ↦ λ k. others x y ne zs ∙ ap (λ b. b || list_any (text_eq x) zs)
          (sym (ap (text_eq x) (sym (same_text y z k)) ∙ ne))
      | false ↦ λ k. ap (λ b. text_eq x z || b) (others x y ne zs)
    ] refl

step : (x y : List ℕ) (zs : List (List ℕ)) (b c : Bool) → text_eq x y ≡ b → list_any (text_eq x) zs ≡ c
    → y ∷ filter (λ z. not (text_eq y z)) (with_other c zs x)
    ≡ with_other (b || list_any (text_eq x) (filter (λ z. not (text_eq y z)) zs)) (y ∷ filter (λ z. not (text_eq y z)) zs) x
step x y zs true true e f = refl
step x y zs true false e f =
    ap (λ ws. y ∷ ws) (filter-append (λ z. not (text_eq y z)) zs (x ∷ [])
    ∙ ap (λ b. filter (λ z. not (text_eq y z)) zs ++ cond (not b) (x ∷ []) []) (nat_list_eq_equiv.symm y x ∙ e)
    ∙ append-nil _)
step x y zs false true e f =
    ap (λ b. with_other b (y ∷ filter (λ z. not (text_eq y z)) zs) x) (sym (others x y e zs ∙ f))
step x y zs false false e f =
    ap (λ ws. y ∷ ws) (filter-append (λ z. not (text_eq y z)) zs (x ∷ [])
    ∙ ap (λ b. filter (λ z. not (text_eq y z)) zs ++ cond (not b) (x ∷ []) []) (nat_list_eq_equiv.symm y x ∙ e))
    ∙ ap (λ b. with_other b (y ∷ filter (λ z. not (text_eq y z)) zs) x) (sym (others x y e zs ∙ f))

first_any : (xs : List (List ℕ)) (x : List ℕ)
    → first_names (xs ++ x ∷ []) ≡ with_other (list_any (text_eq x) (first_names xs)) (first_names xs) x
first_any [] x = refl
first_any (y ∷ ys) x =
    ap (λ zs. y ∷ filter (λ z. not (text_eq y z)) zs) (first_any ys x)
    ∙ step x y (first_names ys) (text_eq x y) (list_any (text_eq x) (first_names ys)) refl refl

pub one_more_name : (xs : List (List ℕ)) (x : List ℕ) → first_names (xs ++ x ∷ []) ≡ with_name (first_names xs) x
one_more_name xs x = first_any xs x ∙ sym (with_name-any (first_names xs) x)

-- ---- the place of a name that is new

last_place : (o : Option ℕ) (b : Bool) (n : ℕ) → (b ≡ true → o ≡ None)
    → after_place (option_or o (cond b (Some n) None)) ≡ cond b (n + 1) (after_place o)
last_place None true n h = refl
last_place None false n h = refl
last_place (Some k) true n h = ap (λ o. after_place (option_or o (Some n))) (h refl)
last_place (Some k) false n h = refl

pub new_place : (names : List (List ℕ)) (name q : List ℕ) → (place_in names name == 0) ≡ true
    → place_in (names ++ name ∷ []) q ≡ cond (text_eq q name) (length names + 1) (place_in names q)
new_place names name q none =
    ap after_place (found-snoc (text_eq q) 0 names name)
    ∙ last_place (position_from (text_eq q) 0 names) (text_eq q name) (0 + length names)
    (λ e. ap (λ w. position_from (text_eq w) 0 names) (same_text q name e) ∙ no_place _ none)
    ∙ ap (λ n. cond (text_eq q name) n (place_in names q)) (let e : 0 + length names + 1 ≡ length names + 1 = omega arith in e)

-- what the map says of a name, after one was added
pub added : (old new : List (List ℕ)) (name key q : List ℕ) (at was now : ℕ) → new ≡ old ++ name ∷ []
    → key ≡ name → place_in old name ≡ 0 → at ≡ length new → was ≡ place_in old q
    → now ≡ cond (text_eq q key) at was → now ≡ place_in new q
added old new name key q at was now more same none last before is =
    is
    ∙ ap (λ k. cond (text_eq q k) at was) same
    ∙ ap (λ n. cond (text_eq q name) n was) (last ∙ ap length more ∙ length-append old (name ∷ []))
    ∙ ap (λ n. cond (text_eq q name) (length old + 1) n) before
    ∙ sym (new_place old name q (ap (λ n. n == 0) none))
    ∙ ap (λ ns. place_in ns q) (sym more)
