-- Binary search finds what has a number, where numbers rise.
use Rattle.std.proofs.Common.{◌≡◌, ℕ, zero, suc, ◌<◌, List, [], ◌∷◌, get_or, length, map, nat_lt, IsTrue, Some, None}
use Rattle.std.proofs.Common.{Ok, Err, refl, sym, arith}
use Rattle.std.specs.List.Sorted.{IsBinarySearchResult}
use Rattle.std.specs.Ordering.{nat_cmp}
use Rattle.std.proofs.lemmas.Bool.{eq-eqb, ne_eqb, ltb-true}
use Rattle.std.proofs.lemmas.Cmp.{ranked}
use Rattle.retro_tree.proofs.Small.{first_true, both_true}
use Rattle.retro_keep.specs.Script.{rises_from}
use Rattle.retro_keep.proofs.Searching.{nowhere}
use Rattle.casebook_view.specs.ByNumber.{with_number}

module _ {X : Type 0} (number_at : X → ℕ) where
  later : (n : ℕ) (x : X) (xs : List X) → IsTrue (rises_from n (map number_at (x ∷ xs)))
      → IsTrue (rises_from (number_at x) (map number_at xs))
  later n x xs rising = both_true (nat_lt n (number_at x)) _ rising

  above : (n : ℕ) (x : X) (xs : List X) → IsTrue (rises_from n (map number_at (x ∷ xs)))
      → n < number_at x
  above n x xs rising = ltb-true n (number_at x) (first_true (nat_lt n (number_at x)) _ rising)

  -- each number is above the one before the first
  all_above : (n : ℕ) (xs : List X) (i : ℕ) (d : X) → IsTrue (rises_from n (map number_at xs))
      → i < length xs → n < number_at (get_or xs i d)
  all_above n [] i d rising lt = absurd (omega (arith, lt))
  all_above n (x ∷ xs) zero d rising lt = above n x xs rising
  all_above n (x ∷ xs) (suc i) d rising lt =
      let here = above n x xs rising in
      let rest = all_above (number_at x) xs i d (later n x xs rising) (omega arith) in
      omega (arith, here, rest)

  at_index : (n : ℕ) (xs : List X) (i number : ℕ) (d : X) → IsTrue (rises_from n (map number_at xs))
      → i < length xs → number_at (get_or xs i d) ≡ number
      → with_number number_at number xs ≡ Some (get_or xs i d)
  at_index n [] i number d rising lt is = absurd (omega (arith, lt))
  at_index n (x ∷ xs) zero number d rising lt is = rw (eq-eqb (number_at x) number is) refl
  at_index n (x ∷ xs) (suc i) number d rising lt is =
      let less = all_above (number_at x) xs i d (later n x xs rising) (omega arith) in
      rw (ne_eqb (number_at x) number (λ same. omega (arith, less, is, same)))
      (at_index (number_at x) xs i number d (later n x xs rising) (omega arith) is)

  at_none : (xs : List X) (number : ℕ)
      → ((i : ℕ) (d : X) → i < length xs → number_at (get_or xs i d) ≡ number → ⊥)
      → with_number number_at number xs ≡ None
  at_none [] number none = refl
  at_none (x ∷ xs) number none =
      rw (ne_eqb (number_at x) number (λ same. none 0 x (omega arith) same))
      (at_none xs number (λ i d lt same. none (suc i) d (omega arith) same))

  module _ (xs : List X) (number : ℕ) (rising : IsTrue (rises_from 0 (map number_at xs))) where
    -- a search that found nothing with the number
    pub search_none : (place : ℕ) → IsBinarySearchResult (λ x. nat_cmp (number_at x) number) xs (Err place)
        → with_number number_at number xs ≡ None
    search_none place parted = at_none xs number (nowhere number_at xs number rising place parted)

    -- a search that found something with the number
    pub search_found : (i : ℕ) (d : X) → i < length xs
        → IsBinarySearchResult (λ x. nat_cmp (number_at x) number) xs (Ok i)
        → with_number number_at number xs ≡ Some (get_or xs i d)
    search_found i d lt equal = at_index 0 xs i number d rising lt (ranked _ number _ (sym (equal d)))
