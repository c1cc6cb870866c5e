-- Binary search finds the line with a number.
use Rattle.std.proofs.Common.{◌≡◌, ℕ, zero, suc, ◌<◌, ◌==◌, ◌||◌, Bool, true, false, List, []}
use Rattle.std.proofs.Common.{◌∷◌, cond, get_or, length, map, nat_lt, IsTrue, Some, None, Result}
use Rattle.std.proofs.Common.{Ok, Err, refl, ap, sym, arith, ⊎_elim}
use Rattle.std.specs.List.Sorted.{IsBinarySearchResult, IsNonDecreasingBy, IsSearchInRange}
use Rattle.std.specs.Option.{is_some}
use Rattle.std.specs.Result.{is_ok}
use Rattle.std.specs.Ordering.{nat_cmp, ordering_index}
use Rattle.std.proofs.lemmas.Bool.{cases_lt, eq-eqb, ne_eqb, ltb-true}
use Rattle.std.proofs.lemmas.Bool.Decides.{nat_tests}
use Rattle.std.proofs.lemmas.Cmp.{ranked}
use Rattle.retro_tree.proofs.Small.{first_true, both_true, or_last}
use Rattle.retro_keep.specs.Edit.{edits_tested, is_among}
use Rattle.retro_keep.specs.Script.{rises_from}
use Rattle.retro_keep.specs.Recording.{noted_at, number_in}
use Rattle.retro_keep.specs.declared.edit.Edit.{Edit}
use Rattle.retro_keep.specs.declared.noted.Noted.{Noted}

-- ---- lines of any type, by their numbers

module _ {X : Type 0} (number_at : X → ℕ) where
  above : (n : ℕ) (l : X) (lines : List X) → IsTrue (rises_from n (map number_at (l ∷ lines)))
      → n < number_at l
  above n l lines rising = ltb-true n (number_at l) (first_true (nat_lt n (number_at l)) _ rising)

  later : (n : ℕ) (l : X) (lines : List X) → IsTrue (rises_from n (map number_at (l ∷ lines)))
      → IsTrue (rises_from (number_at l) (map number_at lines))
  later n l lines rising = both_true (nat_lt n (number_at l)) _ rising

  -- each number is above the one before the first
  all_above : (n : ℕ) (lines : List X) (i : ℕ) (d : X) → IsTrue (rises_from n (map number_at lines))
      → i < length lines → n < number_at (get_or lines i d)
  all_above n [] i d rising lt = absurd (omega (arith, lt))
  all_above n (l ∷ lines) zero d rising lt = above n l lines rising
  all_above n (l ∷ lines) (suc i) d rising lt =
      let here = above n l lines rising in
      let rest = all_above (number_at l) lines i d (later n l lines rising) (omega arith) in
      omega (arith, here, rest)

  rising_at : (n : ℕ) (lines : List X) (i j : ℕ) (d : X)
      → IsTrue (rises_from n (map number_at lines)) → i < j
      → j < length lines → number_at (get_or lines i d) < number_at (get_or lines j d)
  rising_at n [] i j d rising before lt = absurd (omega (arith, lt))
  rising_at n (l ∷ lines) i zero d rising before lt = absurd (omega (arith, before))
  rising_at n (l ∷ lines) zero (suc j) d rising before lt =
      all_above (number_at l) lines j d (later n l lines rising) (omega arith)
  rising_at n (l ∷ lines) (suc i) (suc j) d rising before lt =
      rising_at (number_at l) lines i j d (later n l lines rising) (omega arith) (omega arith)

  -- the number at an index is among the numbers
  among_at : (lines : List X) (i n : ℕ) (d : X) → i < length lines
      → number_at (get_or lines i d) ≡ n → is_among (map number_at lines) n ≡ true
  among_at [] i n d lt is = absurd (omega (arith, lt))
  among_at (l ∷ lines) zero n d lt is = rw (eq-eqb (number_at l) n is) refl
  among_at (l ∷ lines) (suc i) n d lt is =
      or_last (number_at l == n) (is_among (map number_at lines) n)
      (among_at lines i n d (omega arith) is)

  -- a number that is at no index isn't among the numbers
  among_nowhere : (lines : List X) (n : ℕ)
      → ((i : ℕ) (d : X) → i < length lines → number_at (get_or lines i d) ≡ n → ⊥)
      → is_among (map number_at lines) n ≡ false
  among_nowhere [] n none = refl
  among_nowhere (l ∷ lines) n none =
      rw (ne_eqb (number_at l) n (λ same. none 0 l (omega arith) same))
      (among_nowhere lines n (λ i d lt same. none (suc i) d (omega arith) same))

  -- no number is below an earlier one
  pub non_decreasing : (lines : List X) → IsTrue (rises_from 0 (map number_at lines))
      → IsNonDecreasingBy number_at lines
  non_decreasing lines rising i j d le lt =
      grind (
        arith,
        rising_at 0 lines i j d rising,
        λ (same : i ≡ j). ap (λ k. number_at (get_or lines k d)) same,
      )

  module _ (lines : List X) (number : ℕ) (rising : IsTrue (rises_from 0 (map number_at lines)))
    where
      -- the comparisons with the number rise along the lines, as binary search requires
      steps_rise : IsNonDecreasingBy (λ l. ordering_index (nat_cmp (number_at l) number)) lines
      steps_rise i j d le lt =
          let rise = non_decreasing lines rising i j d le lt in
          grind (arith, nat_tests)

      pub nowhere : (place : ℕ)
          → IsBinarySearchResult (λ l. nat_cmp (number_at l) number) lines (Err place)
          → (i : ℕ) (d : X) → i < length lines → number_at (get_or lines i d) ≡ number → ⊥
      nowhere place parted i d lt same = ⊎_elim
          (λ before.
          let less = ranked _ number _ (sym ((parted steps_rise).0 i d (omega arith) before)) in
          omega (arith, less, same))
          (λ after.
          let more = ranked _ number _ (sym ((parted steps_rise).1 i d after lt)) in
          omega (arith, more, same))
          (cases_lt i place)

      -- a line of a list that has one
      item_at : (lines : List X) (i : ℕ) → i < length lines → X
      item_at [] i lt = absurd (omega (arith, lt))
      item_at (l ∷ lines) i lt = l

      -- a search finds a line with the number if there is one
      pub found_if_among : (r : Result ℕ ℕ) → IsSearchInRange r (length lines)
          → IsBinarySearchResult (λ l. nat_cmp (number_at l) number) lines r
          → is_ok r ≡ is_among (map number_at lines) number
      found_if_among (Ok i) lt equal =
          let d = item_at lines i lt in
          sym (among_at lines i number d lt
          (ranked (number_at (get_or lines i d)) number _ (sym (equal d))))
      found_if_among (Err place) le parted = sym (among_nowhere lines number (nowhere place parted))

-- ---- lines of a recording

-- the line with a number is the one that has it
noted_at_index : (n : ℕ) (lines : List (ℕ × Noted)) (i number : ℕ) (d : ℕ × Noted)
    → IsTrue (rises_from n (map number_in lines)) → i < length lines → (get_or lines i d).0 ≡ number
    → noted_at number lines ≡ Some (get_or lines i d).1
noted_at_index n [] i number d rising lt is = absurd (omega (arith, lt))
noted_at_index n (l ∷ lines) zero number d rising lt is = rw (eq-eqb l.0 number is) refl
noted_at_index n (l ∷ lines) (suc i) number d rising lt is =
    let less = all_above number_in l.0 lines i d (later number_in n l lines rising) (omega arith) in
    rw (ne_eqb l.0 number (λ same. omega (arith, less, is, same)))
    (noted_at_index l.0 lines i number d (later number_in n l lines rising) (omega arith) is)

-- if no line has a number, nothing is found
noted_nowhere : (lines : List (ℕ × Noted)) (number : ℕ)
    → ((i : ℕ) (d : ℕ × Noted) → i < length lines → (get_or lines i d).0 ≡ number → ⊥)
    → noted_at number lines ≡ None
noted_nowhere [] number none = refl
noted_nowhere (l ∷ lines) number none =
    rw (ne_eqb l.0 number (λ same. none 0 l (omega arith) same))
    (noted_nowhere lines number (λ i d lt same. none (suc i) d (omega arith) same))

module _ (lines : List (ℕ × Noted)) (number : ℕ)
    (rising : IsTrue (rises_from 0 (map number_in lines))) where
  -- a search that found no line with the number
  pub noted_at_none : (place : ℕ) → IsBinarySearchResult (λ l. nat_cmp l.0 number) lines (Err place)
      → noted_at number lines ≡ None
  noted_at_none place parted = noted_nowhere lines number
      (nowhere number_in lines number rising place parted)

  -- a search that found a line with the number
  pub noted_at_found : (i : ℕ) (d : ℕ × Noted) → i < length lines
      → IsBinarySearchResult (λ l. nat_cmp l.0 number) lines (Ok i)
      → noted_at number lines ≡ Some (get_or lines i d).1
  noted_at_found i d lt equal = noted_at_index 0 lines i number d rising lt
      (ranked _ number _ (sym (equal d)))

-- a recording has a line with a number if the number is among those of its lines
pub noted_if_among : (lines : List (ℕ × Noted)) (n : ℕ)
    → is_some (noted_at n lines) ≡ is_among (map number_in lines) n
noted_if_among [] n = refl
noted_if_among (l ∷ lines) n = by_test (l.0 == n) (noted_if_among lines n)
  where
    by_test : (b : Bool) → is_some (noted_at n lines) ≡ is_among (map number_in lines) n
        → is_some (cond b (Some l.1) (noted_at n lines)) ≡ (b || is_among (map number_in lines) n)
    by_test true rest = refl
    by_test false rest = rest

-- tests of edits by the numbers of a recording's lines
pub tested_at : (from : ℕ) (lines : List (ℕ × Noted)) (edits : List Edit)
    → edits_tested from (is_among (map number_in lines)) edits
    ≡ edits_tested from (λ n. is_some (noted_at n lines)) edits
tested_at from lines edits =
    ap (λ (is_line : ℕ → Bool). edits_tested from is_line edits) (λ i n. sym (noted_if_among lines n) i)
