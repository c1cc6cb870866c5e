-- Unions of lists of numbers that rise.
use Rattle.std.proofs.Common.{◌≡◌, ℕ, ◌<◌, ◌≤◌, Bool, true, false, min, List, [], ◌∷◌, ◌++◌, filter}
use Rattle.std.proofs.Common.{◌+◌, nat_lt, nat_le, drop, length, get_or, zero, suc, refl, sym}
use Rattle.std.proofs.Common.{ap, ◌∙◌, arith, append_assoc}
use Rattle.std.proofs.Common.{◌⊎◌, ⊎_elim, add-zero, append-nil}
use Rattle.std.specs.Int.{from_bool}
use Rattle.std.proofs.lemmas.List.{drop_more, drop_all}
use Rattle.std.specs.List.{list_all}
use Rattle.std.proofs.lemmas.Bool.{cases_order, le-leb, lt-leb, ltb-true, lt-ltb, le-ltb}
use Rattle.retro_tree.proofs.Small.{first_true, both_true, and_true}
use Rattle.retro_keep.specs.Script.{rises_from}
use Rattle.retro_history.specs.inner.Numbers.{rise, union}

-- whether each number of a list is above another
abbrev pub all_over : ℕ → List ℕ → Bool
all_over n numbers = list_all (λ m. nat_lt n m) numbers

pub over_less : (m n : ℕ) (numbers : List ℕ) → m ≤ n → all_over n numbers ≡ true → all_over m numbers ≡ true
over_less m n [] le over = refl
over_less m n (k ∷ numbers) le over =
    let above = ltb-true n k (first_true (nat_lt n k) _ over) in
    and_true _ _ (lt-ltb m k (omega (arith, le, above))) (over_less m n numbers le (both_true (nat_lt n k) _ over))

-- numbers that rise are above the one from which they do
pub rising_over : (n : ℕ) (numbers : List ℕ) → rises_from n numbers ≡ true → all_over n numbers ≡ true
rising_over n [] rises = refl
rising_over n (m ∷ numbers) rises =
    let above = ltb-true n m (first_true (nat_lt n m) _ rises) in
    and_true _ _ (first_true (nat_lt n m) _ rises)
    (over_less n m numbers (omega (arith, above)) (rising_over m numbers (both_true (nat_lt n m) _ rises)))

pub tail_rises : (n : ℕ) (numbers : List ℕ) → rise (n ∷ numbers) ≡ true → rise numbers ≡ true
tail_rises n [] rises = refl
tail_rises n (m ∷ numbers) rises = both_true (nat_lt n m) _ rises

pub none_below : (n : ℕ) (numbers : List ℕ) → all_over n numbers ≡ true → filter (λ m. nat_lt m n) numbers ≡ []
none_below n [] over = refl
none_below n (m ∷ numbers) over =
    let above = ltb-true n m (first_true (nat_lt n m) _ over) in
    rw (le-ltb m n (omega (arith, above))) (none_below n numbers (both_true (nat_lt n m) _ over))

pub all_kept : (n : ℕ) (numbers : List ℕ) → all_over n numbers ≡ true → filter (λ m. nat_lt n m) numbers ≡ numbers
all_kept n [] over = refl
all_kept n (m ∷ numbers) over =
    rw (first_true (nat_lt n m) _ over) (ap (λ ms. m ∷ ms) (all_kept n numbers (both_true (nat_lt n m) _ over)))

-- ---- one more number

pub union_none : (others : List ℕ) → union [] others ≡ others
unfolding union
union_none others = refl

-- a number below all others comes first
pub union_left : (n : ℕ) (numbers others : List ℕ) → all_over n others ≡ true
    → union (n ∷ numbers) others ≡ n ∷ union numbers others
unfolding union
union_left n numbers others over =
    ap (λ ms. ms ++ n ∷ union numbers (filter (λ m. nat_lt n m) others)) (none_below n others over)
    ∙ ap (λ ms. n ∷ union numbers ms) (all_kept n others over)

pub union_both : (n : ℕ) (numbers others : List ℕ) → all_over n others ≡ true
    → union (n ∷ numbers) (n ∷ others) ≡ n ∷ union numbers others
unfolding union
union_both n numbers others over =
    rw (le-ltb n n (omega arith)) (
    ap (λ ms. ms ++ n ∷ union numbers (filter (λ m. nat_lt n m) others)) (none_below n others over)
    ∙ ap (λ ms. n ∷ union numbers ms) (all_kept n others over))

pub union_right : (n m : ℕ) (numbers others : List ℕ) → m < n
    → union (n ∷ numbers) (m ∷ others) ≡ m ∷ union (n ∷ numbers) others
unfolding union
union_right n m numbers others less =
    rw (lt-ltb m n less, le-ltb n m (omega (arith, less))) refl

pub none_union : (numbers : List ℕ) → union numbers [] ≡ numbers
unfolding union
none_union [] = refl
none_union (n ∷ numbers) = ap (λ ns. n ∷ ns) (none_union numbers)

-- a number below all of both lists
pub union_over : (n : ℕ) (numbers others : List ℕ) → all_over n numbers ≡ true
    → union numbers (n ∷ others) ≡ n ∷ union numbers others
union_over n [] others over = union_none (n ∷ others) ∙ ap (λ ms. n ∷ ms) (sym (union_none others))
union_over n (m ∷ numbers) others over =
    union_right m n numbers others (ltb-true n m (first_true (nat_lt n m) _ over))

-- ---- a loop that merges two lists

pub at_most_one : (b : Bool) → from_bool b ≤ 1
at_most_one true = omega arith
at_most_one false = omega arith

pub rise_dropped : (i : ℕ) (numbers : List ℕ) → rise numbers ≡ true → rise (drop i numbers) ≡ true
rise_dropped zero numbers rises = rises
rise_dropped (suc i) [] rises = refl
rise_dropped (suc i) (n ∷ numbers) rises = rise_dropped i numbers (tail_rises n numbers rises)

-- a number comes next, and the lists go on at two places
abbrev Steps : List ℕ → List ℕ → ℕ → ℕ → ℕ → ℕ → ℕ → Type 0
Steps xs ys i j n k m = union (drop i xs) (drop j ys) ≡ n ∷ union (drop k xs) (drop m ys)

step_to : (xs ys : List ℕ) (i j n k m p q r : ℕ) → n ≡ p → k ≡ q → m ≡ r → Steps xs ys i j n k m
    → Steps xs ys i j p q r
step_to xs ys i j n k m p q r same_n same_k same_m h =
    h ∙ (λ e. same_n e ∷ union (drop (same_k e) xs) (drop (same_m e) ys))

module _ (xs ys : List ℕ) (i j x y : ℕ) (one : rise xs ≡ true) (two : rise ys ≡ true) (in_one : i < length xs)
    (in_two : j < length ys) (is_one : x ≡ get_or xs i 0) (is_two : y ≡ get_or ys j 0) where
  here_one : drop i xs ≡ x ∷ drop (i + 1) xs
  here_one = drop_more xs i 0 in_one ∙ ap (λ n. n ∷ drop (i + 1) xs) (sym is_one)

  here_two : drop j ys ≡ y ∷ drop (j + 1) ys
  here_two = drop_more ys j 0 in_two ∙ ap (λ n. n ∷ drop (j + 1) ys) (sym is_two)

  over_one : all_over x (drop (i + 1) xs) ≡ true
  over_one = rising_over x (drop (i + 1) xs) (ap rise (sym here_one) ∙ rise_dropped i xs one)

  over_two : all_over y (drop (j + 1) ys) ≡ true
  over_two = rising_over y (drop (j + 1) ys) (ap rise (sym here_two) ∙ rise_dropped j ys two)

  at_less : x < y → Steps xs ys i j x (i + 1) j
  at_less less =
      (λ k. union (here_one k) (here_two k))
      ∙ union_left x (drop (i + 1) xs) (y ∷ drop (j + 1) ys)
      (and_true (nat_lt x y) _ (lt-ltb x y less) (over_less x y (drop (j + 1) ys) (omega (arith, less)) over_two))
      ∙ ap (λ ns. x ∷ union (drop (i + 1) xs) ns) (sym here_two)

  at_same : x ≡ y → Steps xs ys i j x (i + 1) (j + 1)
  at_same same =
      (λ k. union (here_one k) (here_two k))
      ∙ ap (λ n. union (x ∷ drop (i + 1) xs) (n ∷ drop (j + 1) ys)) (sym same)
      ∙ union_both x (drop (i + 1) xs) (drop (j + 1) ys) (ap (λ n. all_over n (drop (j + 1) ys)) same ∙ over_two)

  at_more : y < x → Steps xs ys i j y i (j + 1)
  at_more less =
      (λ k. union (here_one k) (here_two k))
      ∙ union_right x y (drop (i + 1) xs) (drop (j + 1) ys) less
      ∙ ap (λ ns. y ∷ union ns (drop (j + 1) ys)) (sym here_one)

  -- the lesser of the first numbers comes next, and each list that begins with it goes on after it
  pub merge_step : Steps xs ys i j (min x y) (i + from_bool (nat_le x y)) (j + from_bool (nat_le y x))
  merge_step = ⊎_elim
      (λ same. step_to xs ys i j x (i + 1) (j + 1) _ _ _ (omega (arith, same))
      (ap (λ b. i + from_bool b) (sym (le-leb x y (omega (arith, same)))))
      (ap (λ b. j + from_bool b) (sym (le-leb y x (omega (arith, same))))) (at_same same))
      (⊎_elim
      (λ less. step_to xs ys i j x (i + 1) j _ _ _ (omega (arith, less))
      (ap (λ b. i + from_bool b) (sym (le-leb x y (omega (arith, less)))))
      (sym (add-zero j) ∙ ap (λ b. j + from_bool b) (sym (lt-leb y x less))) (at_less less))
      (λ less. step_to xs ys i j y i (j + 1) _ _ _ (omega (arith, less))
      (sym (add-zero i) ∙ ap (λ b. i + from_bool b) (sym (lt-leb x y less)))
      (ap (λ b. j + from_bool b) (sym (le-leb y x (omega (arith, less))))) (at_more less)))
      (cases_order x y)

-- what is merged so far, with what is left of both lists, goes on by the lesser of the first
-- numbers
pub merge_goes_on : (xs ys so_far total : List ℕ) (i j x y : ℕ) → rise xs ≡ true → rise ys ≡ true → i < length xs
    → j < length ys → x ≡ get_or xs i 0 → y ≡ get_or ys j 0
    → so_far ++ union (drop i xs) (drop j ys) ≡ total
    → (so_far ++ min x y ∷ []) ++ union (drop (i + from_bool (nat_le x y)) xs) (drop (j + from_bool (nat_le y x)) ys)
    ≡ total
merge_goes_on xs ys so_far total i j x y one two in_one in_two is_one is_two is =
    append_assoc so_far (min x y ∷ []) _
    ∙ ap (λ ns. so_far ++ ns) (sym (merge_step xs ys i j x y one two in_one in_two is_one is_two)) ∙ is

-- if one of the lists is at its end, the other one follows
pub merge_ends : (xs ys so_far total : List ℕ) (i j : ℕ) → (length xs ≤ i) ⊎ (length ys ≤ j)
    → so_far ++ union (drop i xs) (drop j ys) ≡ total → (so_far ++ drop i xs) ++ drop j ys ≡ total
merge_ends xs ys so_far total i j ended is = ⊎_elim
    (λ le.
    append_assoc so_far (drop i xs) (drop j ys)
    ∙ ap (λ ns. so_far ++ (ns ++ drop j ys)) (drop_all i xs le)
    ∙ ap (λ ns. so_far ++ ns) (sym (union_none (drop j ys)) ∙ ap (λ ns. union ns (drop j ys)) (sym (drop_all i xs le)))
    ∙ is)
    (λ le.
    ap (λ ns. (so_far ++ drop i xs) ++ ns) (drop_all j ys le) ∙ append-nil (so_far ++ drop i xs)
    ∙ ap (λ ns. so_far ++ ns) (sym (none_union (drop i xs)) ∙ ap (union (drop i xs)) (sym (drop_all j ys le)))
    ∙ is)
    ended
