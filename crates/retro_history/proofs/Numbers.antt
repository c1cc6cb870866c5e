-- Lists of numbers that rise.
use Rattle.std.proofs.Common.{◌≡◌, ℕ, zero, suc, ◌-◌, ◌<◌, Bool, true, false, ◌&&◌, List, [], ◌∷◌, ◌++◌}
use Rattle.std.proofs.Common.{length, get_or, slice_get, Bor, nat_lt, nat_le, Option, Some, None, refl}
use Rattle.std.proofs.Common.{sym, ap, ◌∙◌, arith}
use Rattle.std.specs.Option.{option_copied}
use Rattle.std.specs.Slice.{IsItemAt}
use Rattle.std.specs.List.Sorted.{IsNonDecreasingBy, IsPartitionPoint}
use Rattle.std.proofs.lemmas.Bool.{ltb-true, leb-true, leb-false, lt-ltb, le-ltb}
use Rattle.std.proofs.lemmas.Option.{slice_get_past, slice_get_read}
use Rattle.retro_tree.proofs.Small.{first_true, both_true, and_true, some_same, none_some}
use Rattle.retro_keep.specs.Script.{rises_from}
use Rattle.retro_history.specs.inner.Numbers.{are_below, first_above, rise}

-- ---- appending

rises_pushed : (m n : ℕ) (numbers : List ℕ) → rises_from m numbers ≡ true → m < n → are_below n numbers ≡ true
    → rises_from m (numbers ++ n ∷ []) ≡ true
rises_pushed m n [] rises above below = and_true _ _ (lt-ltb m n above) refl
rises_pushed m n (k ∷ numbers) rises above below =
    and_true _ _ (first_true (nat_lt m k) _ rises)
    (rises_pushed k n numbers (both_true (nat_lt m k) _ rises) (ltb-true k n (first_true (nat_lt k n) _ below))
    (both_true (nat_lt k n) _ below))

-- a list that rises still does with a greater number appended
pub rise_pushed : (n : ℕ) (numbers : List ℕ) → rise numbers ≡ true → are_below n numbers ≡ true
    → rise (numbers ++ n ∷ []) ≡ true
rise_pushed n [] rises below = refl
rise_pushed n (m ∷ numbers) rises below =
    rises_pushed m n numbers rises (ltb-true m n (first_true (nat_lt m n) _ below)) (both_true (nat_lt m n) _ below)

-- ---- the last number

abbrev last_in : List ℕ → Option ℕ
last_in [] = None
last_in (n ∷ []) = Some n
last_in (n ∷ m ∷ numbers) = last_in (m ∷ numbers)

get_last : (numbers : List ℕ) → slice_get numbers (length numbers - 1) ≡ last_in numbers
get_last [] = refl
get_last (n ∷ []) = refl
get_last (n ∷ m ∷ numbers) =
    let e : length (n ∷ m ∷ numbers) - 1 ≡ suc (length (m ∷ numbers) - 1) = omega arith in
    ap (slice_get (n ∷ m ∷ numbers)) e ∙ get_last (m ∷ numbers)

last_above : (m : ℕ) (n : ℕ) (numbers : List ℕ) (last : ℕ) → rises_from m (n ∷ numbers) ≡ true
    → last_in (n ∷ numbers) ≡ Some last → m < last
last_above m n [] last rises is =
    let above = ltb-true m n (first_true (nat_lt m n) _ rises) in
    let same = some_same n last is in
    omega (arith, above, same)
last_above m n (k ∷ numbers) last rises is =
    let above = ltb-true m n (first_true (nat_lt m n) _ rises) in
    let rest = last_above n k numbers last (both_true (nat_lt m n) _ rises) is in
    omega (arith, above, rest)

below_with : (a b : Bool) → (b ≡ true → a ≡ true) → (a && b) ≡ b
below_with true b h = refl
below_with false true h = h refl
below_with false false h = refl

below_by_last : (n : ℕ) (numbers : List ℕ) (last : ℕ) → rise numbers ≡ true → last_in numbers ≡ Some last
    → nat_lt last n ≡ are_below n numbers
below_by_last n [] last rises is = absurd (none_some last is)
below_by_last n (k ∷ []) last rises is = go (nat_lt k n) (ap (λ m. nat_lt m n) (sym (some_same k last is)))
  where
    go : (b : Bool) → nat_lt last n ≡ b → nat_lt last n ≡ (b && true)
    go true e = e
    go false e = e
below_by_last n (k ∷ m ∷ numbers) last rises is =
    let rest = below_by_last n (m ∷ numbers) last (both_true (nat_lt k m) _ rises) is in
    rest ∙ sym (below_with (nat_lt k n) (are_below n (m ∷ numbers)) (λ below.
    let less = ltb-true last n (rest ∙ below) in
    let above = last_above k m numbers last rises is in
    lt-ltb k n (omega (arith, less, above))))

-- whether all numbers are below another, by the last of them
pub below_by_some : (n : ℕ) (numbers : List ℕ) (last : ℕ) → rise numbers ≡ true
    → slice_get numbers (length numbers - 1) ≡ Some last → nat_lt last n ≡ are_below n numbers
below_by_some n numbers last rises is = below_by_last n numbers last rises (sym (get_last numbers) ∙ is)

empty_by_last : (n : ℕ) (numbers : List ℕ) → last_in numbers ≡ None → are_below n numbers ≡ true
empty_by_last n [] is = refl
empty_by_last n (k ∷ []) is = absurd (none_some k (sym is))
empty_by_last n (k ∷ m ∷ numbers) is = absurd (never k m numbers is)
  where
    never : (k m : ℕ) (numbers : List ℕ) → last_in (k ∷ m ∷ numbers) ≡ None → ⊥
    never k m [] is = none_some m (sym is)
    never k m (j ∷ numbers) is = never m j numbers is

pub below_by_none : (n : ℕ) (numbers : List ℕ) → slice_get numbers (length numbers - 1) ≡ None
    → true ≡ are_below n numbers
below_by_none n numbers is = sym (empty_by_last n numbers (sym (get_last numbers) ∙ is))

-- ---- searches

all_above : (m : ℕ) (numbers : List ℕ) (i d : ℕ) → rises_from m numbers ≡ true → i < length numbers
    → m < get_or numbers i d
all_above m [] i d rises lt = absurd (omega (arith, lt))
all_above m (n ∷ numbers) zero d rises lt = ltb-true m n (first_true (nat_lt m n) _ rises)
all_above m (n ∷ numbers) (suc i) d rises lt =
    let here = ltb-true m n (first_true (nat_lt m n) _ rises) in
    let rest = all_above n numbers i d (both_true (nat_lt m n) _ rises) (omega arith) in
    omega (arith, here, rest)

pub non_decreasing : (numbers : List ℕ) → rise numbers ≡ true → IsNonDecreasingBy (λ n. n) numbers
non_decreasing [] rises i j d le lt = absurd (omega (arith, lt))
non_decreasing (n ∷ numbers) rises zero zero d le lt = omega arith
non_decreasing (n ∷ numbers) rises zero (suc j) d le lt =
    let less = all_above n numbers j d rises (omega arith) in
    omega (arith, less)
non_decreasing (n ∷ numbers) rises (suc i) zero d le lt = absurd (omega (arith, le))
non_decreasing (n ∷ numbers) rises (suc i) (suc j) d le lt =
    non_decreasing numbers (tail_rises n numbers rises) i j d (omega arith) (omega arith)
  where
    tail_rises : (n : ℕ) (numbers : List ℕ) → rises_from n numbers ≡ true → rise numbers ≡ true
    tail_rises n [] rises = refl
    tail_rises n (m ∷ numbers) rises = both_true (nat_lt n m) _ rises

-- what is read at a place
pub item_at : (numbers : List ℕ) (i : ℕ) (found : Option (Bor ℕ)) → IsItemAt numbers i found
    → option_copied found ≡ slice_get numbers i
item_at numbers i None h = sym (slice_get_past numbers i h.3)
item_at numbers i (Some n) h = sym (slice_get_read numbers (length numbers) i n.now refl h.3.0 h.1)

-- the number at the place where those above another begin is the first of these
pub first_by_place : (after : ℕ) (numbers : List ℕ) (i : ℕ)
    → IsPartitionPoint (λ n. nat_le n after ≡ true) (λ n. nat_le n after ≡ false) numbers i
    → slice_get numbers i ≡ first_above after numbers
first_by_place after [] i parted = refl
first_by_place after (n ∷ numbers) zero parted =
    rw (lt-ltb after n (leb-false n after (parted.1 0 n (omega arith) (omega arith)))) refl
first_by_place after (n ∷ numbers) (suc i) parted =
    rw (le-ltb after n (leb-true n after (parted.0 0 n (omega arith) (omega arith))))
    (first_by_place after numbers i (
      λ k d low high. parted.0 (suc k) d (omega arith) (omega arith),
      λ k d low high. parted.1 (suc k) d (omega arith) (omega arith),
    ))
