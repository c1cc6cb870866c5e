-- Numbers picked from lists, and facts of all items.
use Rattle.std.proofs.Common.{inl, inr, ℕ, zero, suc, ◌≤◌, List, [], ◌∷◌, ◌++◌, length, drop, take}
use Rattle.std.proofs.Common.{sym, arith, subst}
use Rattle.std.specs.List.{AllByRecursion}
use Rattle.retro_redo.specs.Picks.{PicksBy}

-- ---- facts of all items

pub all_map : {A : Type 0} (P Q : A → Type 0) (xs : List A) → ((x : A) → P x → Q x) → AllByRecursion P xs
    → AllByRecursion Q xs
all_map P Q [] f h = tt
all_map P Q (x ∷ xs) f h = (f x h.0, all_map P Q xs f h.1)

pub all_right : {A : Type 0} (P : A → Type 0) (xs ys : List A) → AllByRecursion P (xs ++ ys) → AllByRecursion P ys
all_right P [] ys h = h
all_right P (x ∷ xs) ys h = all_right P xs ys h.1

pub all_front : {A : Type 0} (P : A → Type 0) (n : ℕ) (xs : List A) → AllByRecursion P xs → AllByRecursion P (take n xs)
all_front P zero xs h = tt
all_front P (suc n) [] h = tt
all_front P (suc n) (x ∷ xs) h = (h.0, all_front P n xs h.1)

pub all_rest : {A : Type 0} (P : A → Type 0) (n : ℕ) (xs : List A) → AllByRecursion P xs → AllByRecursion P (drop n xs)
all_rest P zero xs h = h
all_rest P (suc n) [] h = tt
all_rest P (suc n) (x ∷ xs) h = all_rest P n xs h.1

-- ---- picks

module _ {A : Type 0} (number : A → ℕ) (P : A → Type 0) where
  pub picks_le : (xs : List A) (js : List ℕ) → PicksBy number P xs js → length js ≤ length xs
  picks_le [] js h = subst (λ (ns : List ℕ). length ns ≤ 0) (sym h) (omega arith)
  picks_le (x ∷ xs) js (inl h) =
      let r = picks_le xs h.1 h.3 in
      subst (λ (ns : List ℕ). length ns ≤ suc (length xs)) (sym h.2) (omega (arith, r))
  picks_le (x ∷ xs) js (inr h) = let r = picks_le xs js h.1 in omega (arith, r)

  -- what is so of every item's number is so of every picked number
  pub picks_all : (Q : ℕ → Type 0) (xs : List A) (js : List ℕ) → AllByRecursion (λ x. Q (number x)) xs
      → PicksBy number P xs js → AllByRecursion Q js
  picks_all Q [] js h k = subst (AllByRecursion Q) (sym k) tt
  picks_all Q (x ∷ xs) js h (inl k) = subst (AllByRecursion Q) (sym k.2) (h.0, picks_all Q xs k.1 h.1 k.3)
  picks_all Q (x ∷ xs) js h (inr k) = picks_all Q xs js h.1 k.1

-- the same items by another condition
pub picks_same : {A : Type 0} (number : A → ℕ) (P Q : A → Type 0) (xs : List A) (js : List ℕ)
    → AllByRecursion (λ x. (P x → Q x) × (Q x → P x)) xs → PicksBy number P xs js → PicksBy number Q xs js
picks_same number P Q [] js h k = k
picks_same number P Q (x ∷ xs) js h (inl k) = inl (h.0.0 k.0, k.1, k.2, picks_same number P Q xs k.1 h.1 k.3)
picks_same number P Q (x ∷ xs) js h (inr k) = inr ((λ q. k.0 (h.0.1 q)), picks_same number P Q xs js h.1 k.1)

-- numbers picked from picked numbers
pub picks_twice : {A : Type 0} (number : A → ℕ) (P Q : A → Type 0) (R : ℕ → Type 0) (xs : List A) (ns js : List ℕ)
    → AllByRecursion (λ x. (P x → R (number x) → Q x) × (Q x → P x × R (number x))) xs → PicksBy number P xs ns
    → PicksBy (λ n. n) R ns js → PicksBy number Q xs js
picks_twice number P Q R [] ns js h k j = subst (λ ms. PicksBy (λ n. n) R ms js) k j
picks_twice number P Q R (x ∷ xs) ns js h (inl k) j =
    one (subst (λ ms. PicksBy (λ n. n) R ms js) k.2 j) (λ is more. picks_twice number P Q R xs k.1 is h.1 k.3 more)
  where
    one : PicksBy (λ n. n) R (number x ∷ k.1) js → ((is : List ℕ) → PicksBy (λ n. n) R k.1 is → PicksBy number Q xs is)
        → PicksBy number Q (x ∷ xs) js
    one (inl i) rest = inl (h.0.0 k.0 i.0, i.1, i.2, rest i.1 i.3)
    one (inr i) rest = inr ((λ q. i.0 (h.0.1 q).1), rest js i.1)
picks_twice number P Q R (x ∷ xs) ns js h (inr k) j =
    inr ((λ q. k.0 (h.0.1 q).0), picks_twice number P Q R xs ns js h.1 k.1 j)
