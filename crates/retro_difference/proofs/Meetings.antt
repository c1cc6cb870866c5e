-- The numbers of the lines to settle that use a cell in which the two states differ.
use Rattle.std.proofs.Common.{◌≡◌, ◌∙◌, ◌⊎◌, inl, inr, ℕ, zero, suc, ◌<◌, ◌≤◌, ◌-◌, ◌+◌, ◌==◌, Bool, true}
use Rattle.std.proofs.Common.{false, ◌&&◌}
use Rattle.std.proofs.Common.{cond, nat_lt, nat_cmp, List, [], ◌∷◌, drop, take, Option, Some, None, IfSome, refl}
use Rattle.std.proofs.Common.{sym, ap, arith, subst, Less}
use Rattle.std.specs.List.{AllByRecursion, list_any, slice_get}
use Rattle.std.specs.List.Sorted.{IsStrictlySortedBy}
use Rattle.std.specs.BTreeMap.{is_at}
use Rattle.std.specs.BTreeSet.{BTreeSet}
use Rattle.std.specs.FinMap as finmap
use Rattle.std.specs.FinMap.{contains_key-keys}
use Rattle.std.specs.Cmp.{unsigned_ties}
use Rattle.std.proofs.lemmas.Bool.{true≢false, eq-eqb, eqb-true, lt-ltb, ltb-true}
use Rattle.std.proofs.lemmas.Grind.{common_steps}
use Rattle.retro_tree.specs.Notes.{cell_eq, touches}
use Rattle.retro_tree.specs.Overlay.{OverlayMap}
use Rattle.retro_tree.specs.declared.cell.Cell.{Cell}
use Rattle.retro_tree.proofs.NoteLaws.{cell_itself, same_cells}
use Rattle.retro_tree.proofs.Small.{and_true, both_true, first_true, or_first, or_last, some_same}
use Rattle.retro_keep.specs.Edit.{is_among}
use Rattle.retro_history.specs.Index.{Line, meets, next_use, numbers_of}
use Rattle.retro_history.proofs.Lines.{RiseFrom, above, first_more, later, numbers_of_more}
use Rattle.retro_difference.specs.NextUses.{AddsNumbers, AreNumbersUntil, IsUsedBy}
use Rattle.retro_difference.specs.NextUses.{AreSorted, Use, first_use, has_use, is_use, use_cmp}
use Rattle.retro_difference.proofs.Entries.{has_none, head_has, least, or_rest, same_use, sorted_tail}
use Rattle.retro_difference.proofs.Numbers.{contains_among}
use Rattle.retro_difference.proofs.UsedLines.{not_none, above_at, apart, first_at_head, first_past, later_use}
use Rattle.retro_difference.proofs.UsedLines.{next_more, rise_from, use_above, use_past}

-- ---- numbers in a set

among_itself : (n : ℕ) → (n == n) ≡ true
among_itself n = eq-eqb n n refl

-- a number was added to a set, or was there
pub was_added : (old new : BTreeSet ℕ) (key : ℕ)
    → ((u : ℕ) → list_any (is_at (nat_cmp u)) new.keys
    ≡ cond (is_at (nat_cmp key) u) true (list_any (is_at (nat_cmp u)) old.keys))
    → (n : ℕ) → is_among new.keys n ≡ cond (key == n) true (is_among old.keys n)
was_added old new key updates n =
    sym (contains_among new n) ∙ updates n
    ∙ (λ i. cond (sym (unsigned_ties key n) i) true (contains_among old n i))

pub key_added : (old new : List ℕ) (key : ℕ) → ((n : ℕ) → is_among new n ≡ cond (key == n) true (is_among old n))
    → is_among new key ≡ true
key_added old new key updates = updates key ∙ ap (λ b. cond b true (is_among old key)) (among_itself key)

pub others_kept : (old new : List ℕ) (key : ℕ) → ((n : ℕ) → is_among new n ≡ cond (key == n) true (is_among old n))
    → (n : ℕ) → is_among old n ≡ true → is_among new n ≡ true
others_kept old new key updates n has = updates n ∙ ap (cond (key == n) true) has ∙ either (key == n)
  where
    either : (b : Bool) → cond b true true ≡ true
    either true = refl
    either false = refl

pub only_added : (old new : List ℕ) (key : ℕ) → ((n : ℕ) → is_among new n ≡ cond (key == n) true (is_among old n))
    → (n : ℕ) → is_among new n ≡ true → (is_among old n ≡ true) ⊎ (n ≡ key)
only_added old new key updates n has = by_test (key == n) refl
  where
    by_test : (b : Bool) → (key == n) ≡ b → (is_among old n ≡ true) ⊎ (n ≡ key)
    by_test true e = inr (sym (eqb-true key n e))
    by_test false e = inl (sym (ap (λ b. cond b true (is_among old n)) e) ∙ sym (updates n) ∙ has)

-- ---- the next use above a number

pub next_found : (m : ℕ) (c : Cell) (lines : List Line) (k : ℕ) → next_use m c lines ≡ Some k
    → (m < k) × (is_use k c lines ≡ true)
next_found m c [] k h = absurd (not_none k h)
next_found m c (l ∷ lines) k h =
    by_tests (touches l.1.notes c) (nat_lt m l.0) refl refl (sym (next_more m c l lines) ∙ h) (next_found m c lines k)
  where
    rest : ((m < k) × (is_use k c lines ≡ true)) → (m < k) × (is_use k c (l ∷ lines) ≡ true)
    rest r = (r.0, later_use l lines k c r.1)

    by_tests : (a b : Bool) → touches l.1.notes c ≡ a → nat_lt m l.0 ≡ b
        → first_more a b l.0 (next_use m c lines) ≡ Some k
        → (next_use m c lines ≡ Some k → (m < k) × (is_use k c lines ≡ true))
        → (m < k) × (is_use k c (l ∷ lines) ≡ true)
    by_tests true true e f is ih =
        let same : l.0 ≡ k = some_same l.0 k is in (
          subst (λ n. m < n) same (ltb-true m l.0 f),
          or_first ((l.0 == k) && touches l.1.notes c) _ (and_true (l.0 == k) _ (eq-eqb l.0 k same) e),
        )
    by_tests true false e f is ih = rest (ih is)
    by_tests false b e f is ih = rest (ih is)

-- the next use isn't after another use
pub next_soon : (m low : ℕ) (c : Cell) (lines : List Line) (n : ℕ) → RiseFrom low lines → m < n
    → is_use n c lines ≡ true → (k : ℕ) × (next_use m c lines ≡ Some k) × (k ≤ n)
next_soon m low c [] n rise less used = absurd (true≢false (sym used))
next_soon m low c (l ∷ lines) n rise less used =
    by_tests (touches l.1.notes c) (nat_lt m l.0) ((l.0 == n) && touches l.1.notes c) refl refl refl
    (next_soon m l.0 c lines n (later low l lines rise) less)
  where
    Soon : List Line → Type 0
    Soon ls = (k : ℕ) × (next_use m c ls ≡ Some k) × (k ≤ n)

    at_more : (a b : Bool) → touches l.1.notes c ≡ a → nat_lt m l.0 ≡ b
        → next_use m c (l ∷ lines) ≡ first_more a b l.0 (next_use m c lines)
    at_more a b e f = next_more m c l lines ∙ (λ i. first_more (e i) (f i) l.0 (next_use m c lines))

    by_tests : (a b d : Bool) → touches l.1.notes c ≡ a → nat_lt m l.0 ≡ b
        → ((l.0 == n) && touches l.1.notes c) ≡ d → (is_use n c lines ≡ true → Soon lines) → Soon (l ∷ lines)
    by_tests true true true e f g ih =
        let same = eqb-true l.0 n (first_true (l.0 == n) _ g) in (l.0, at_more true true e f, omega (arith, same))
    by_tests true true false e f g ih =
        let more = use_above l.0 lines n c (later low l lines rise) (or_rest _ _ g used) in
        (l.0, at_more true true e f, omega (arith, more))
    by_tests true false true e f g ih =
        let same = eqb-true l.0 n (first_true (l.0 == n) _ g) in
        absurd (true≢false (sym (lt-ltb m l.0 (omega (arith, same, less))) ∙ f))
    by_tests true false false e f g ih =
        let r = ih (or_rest _ _ g used) in (r.0, at_more true false e f ∙ r.1, r.2)
    by_tests false b true e f g ih = absurd (true≢false (sym (both_true (l.0 == n) _ g) ∙ e))
    by_tests false b false e f g ih =
        let r = ih (or_rest _ _ g used) in (r.0, at_more false b e f ∙ r.1, r.2)

-- ---- the loop over the uses of a cell

-- whether a number isn't below the next one
abbrev pub IsStill : ℕ → Option ℕ → Type 0
IsStill n None = ⊥
IsStill n (Some m) = m ≤ n

-- a number is the first one, or a use above it
abbrev pub IsFrom : ℕ → Cell → List Line → ℕ → Type 0
IsFrom from c lines n = (n ≡ from) ⊎ ((from < n) × (is_use n c lines ≡ true))

pub record Adding (from last : ℕ) (c : Cell) (lines : List Line) (old new : List ℕ) (next : Option ℕ) : Type 0 where
  pub kept : (n : ℕ) → is_among old n ≡ true → is_among new n ≡ true
  pub only : (n : ℕ) → is_among new n ≡ true
      → (is_among old n ≡ true) ⊎ ((n ≤ last) × IsFrom from c lines n)
  pub added : (n : ℕ) → from ≤ n → n ≤ last → (n ≡ from) ⊎ (is_use n c lines ≡ true)
      → (is_among new n ≡ true) ⊎ IsStill n next
  pub next_is : IfSome next (IsFrom from c lines)

-- how many numbers may still be added
abbrev pub left : ℕ → Option ℕ → ℕ
left last None = 0
left last (Some n) = suc (last + 1 - n)

pub left_less : (last : ℕ) (c : Cell) (lines : List Line) (now : Option ℕ) (m : ℕ) (next : Option ℕ)
    → now ≡ Some m → m ≤ last → next ≡ next_use m c lines → left last next < left last now
left_less last c lines now m next is high e =
    subst (λ o. left last next < left last o) (sym is) (go next e)
  where
    go : (o : Option ℕ) → o ≡ next_use m c lines → left last o < suc (last + 1 - m)
    go None f = omega arith
    go (Some k) f = let more = (next_found m c lines k (sym f)).0 in omega (arith, more, high)

pub adding_starts : (from last : ℕ) (c : Cell) (lines : List Line) (old : List ℕ)
    → Adding from last c lines old old (Some from)
adding_starts from last c lines old = record {
  kept = λ n h. h;
  only = λ n h. inl h;
  added = λ n low high h. inr low;
  next_is = inl refl;
}

pub adding_goes_on : (from last : ℕ) (c : Cell) (lines : List Line) (old mid new : List ℕ) (m : ℕ) (next : Option ℕ)
    → RiseFrom 0 lines → m ≤ last → Adding from last c lines old mid (Some m)
    → ((n : ℕ) → is_among new n ≡ cond (m == n) true (is_among mid n)) → next ≡ next_use m c lines
    → Adding from last c lines old new next
adding_goes_on from last c lines old mid new m next rise high h updates is = record {
  kept = λ n has. others_kept mid new m updates n (h.kept n has);
  only = λ n has. only n (only_added mid new m updates n has);
  added = λ n low top used. added n low top used (h.added n low top used);
  next_is = next_is next is;
}
  where
    only : (n : ℕ) → (is_among mid n ≡ true) ⊎ (n ≡ m)
        → (is_among old n ≡ true) ⊎ ((n ≤ last) × IsFrom from c lines n)
    only n (inl has) = h.only n has
    only n (inr same) = inr (omega (arith, same, high), subst (IsFrom from c lines) (sym same) h.next_is)

    low_m : IsFrom from c lines m → from ≤ m
    low_m (inl e) = omega (arith, e)
    low_m (inr e) = let less = e.0 in omega (arith, less)

    above_from : (n : ℕ) → m < n → (n ≡ from) ⊎ (is_use n c lines ≡ true) → is_use n c lines ≡ true
    above_from n less (inl e) = let low = low_m h.next_is in absurd (omega (arith, e, less, low))
    above_from n less (inr used) = used

    still : (n : ℕ) → (k : ℕ) × (next_use m c lines ≡ Some k) × (k ≤ n) → IsStill n next
    still n r = subst (IsStill n) (sym (is ∙ r.1)) r.2

    added : (n : ℕ) → from ≤ n → n ≤ last → (n ≡ from) ⊎ (is_use n c lines ≡ true)
        → (is_among mid n ≡ true) ⊎ IsStill n (Some m) → (is_among new n ≡ true) ⊎ IsStill n next
    added n low top used (inl has) = inl (others_kept mid new m updates n has)
    added n low top used (inr le) = by_test (m == n) refl
      where
        by_test : (b : Bool) → (m == n) ≡ b → (is_among new n ≡ true) ⊎ IsStill n next
        by_test true e =
            inl (subst (λ k. is_among new k ≡ true) (eqb-true m n e) (key_added mid new m updates))
        by_test false e =
            let less : m < n = strictly m n le e in
            inr (still n (next_soon m 0 c lines n rise less (above_from n less used)))
          where
            strictly : (a b : ℕ) → a ≤ b → (a == b) ≡ false → a < b
            strictly a b le e = by_order (nat_lt a b) refl
              where
                by_order : (d : Bool) → nat_lt a b ≡ d → a < b
                by_order true f = ltb-true a b f
                by_order false f =
                    absurd (true≢false (sym (eq-eqb a b (equal f)) ∙ e))
                  where
                    equal : nat_lt a b ≡ false → a ≡ b
                    equal f = grind (arith, common_steps, f, le)

    next_is : (o : Option ℕ) → o ≡ next_use m c lines → IfSome o (IsFrom from c lines)
    next_is None e = tt
    next_is (Some k) e =
        let found = next_found m c lines k (sym e) in
        let low = low_m h.next_is in
        let more = found.0 in inr (omega (arith, low, more), found.1)

pub adding_ends : (from last : ℕ) (c : Cell) (lines : List Line) (old new : List ℕ) (next : Option ℕ)
    → Adding from last c lines old new next → ((n : ℕ) → n ≤ last → IsStill n next → ⊥)
    → AddsNumbers from last c lines old new
adding_ends from last c lines old new next h none = record {
  kept = h.kept;
  only = h.only;
  added = λ n low top used. by_case n top (h.added n low top used);
}
  where
    by_case : (n : ℕ) → n ≤ last → (is_among new n ≡ true) ⊎ IsStill n next → is_among new n ≡ true
    by_case n top (inl has) = has
    by_case n top (inr still) = absurd (none n top still)

-- ---- the loop over the entries

pub record Gathering (last : ℕ) (overlay : OverlayMap) (lines : List Line) (uses rest : List Use) (numbers : List ℕ)
    : Type 0 where
  pub sorted : AreSorted rest
  pub within : (m : ℕ) (c : Cell) → has_use m c rest ≡ true → has_use m c uses ≡ true
  pub only : (n : ℕ) → is_among numbers n ≡ true → IsUsedBy last overlay lines uses n
  pub all : (n m : ℕ) (c : Cell) → has_use m c uses ≡ true → finmap.contains_key overlay c ≡ true → m ≤ n → n ≤ last
      → (n ≡ m) ⊎ (is_use n c lines ≡ true) → (is_among numbers n ≡ true) ⊎ (has_use m c rest ≡ true)

pub gathering_starts : (last : ℕ) (overlay : OverlayMap) (lines : List Line) (uses : List Use) → AreSorted uses
    → Gathering last overlay lines uses uses []
gathering_starts last overlay lines uses sorted = record {
  sorted = sorted;
  within = λ m c has. has;
  only = λ n has. absurd (true≢false (sym has));
  all = λ n m c has key low top used. inr has;
}

module _ (last : ℕ) (overlay : OverlayMap) (lines : List Line) (uses all_rest : List Use) (u : Use) (rest : List Use)
    (numbers : List ℕ) (is : all_rest ≡ u ∷ rest) (h : Gathering last overlay lines uses all_rest numbers) where
  sorted_rest : AreSorted (u ∷ rest)
  sorted_rest = subst AreSorted is h.sorted

  later_has : (m : ℕ) (c : Cell) → has_use m c rest ≡ true → has_use m c all_rest ≡ true
  later_has m c has = subst (λ (us : List Use). has_use m c us ≡ true) (sym is) (or_last (is_at (use_cmp (m, c)) u) _ has)

  here_has : has_use u.0 u.1 all_rest ≡ true
  here_has = subst (λ (us : List Use). has_use u.0 u.1 us ≡ true) (sym is) (head_has u rest)

  -- an entry of a cell that has none in the overlay is passed over
  pub gathering_passes : finmap.contains_key overlay u.1 ≡ false → Gathering last overlay lines uses rest numbers
  gathering_passes none = record {
    sorted = sorted_tail u rest sorted_rest;
    within = λ m c has. h.within m c (later_has m c has);
    only = h.only;
    all = λ n m c has key low top used. by_case n m c key (h.all n m c has key low top used);
  }
    where
      by_case : (n m : ℕ) (c : Cell) → finmap.contains_key overlay c ≡ true
          → (is_among numbers n ≡ true) ⊎ (has_use m c all_rest ≡ true)
          → (is_among numbers n ≡ true) ⊎ (has_use m c rest ≡ true)
      by_case n m c key (inl g) = inl g
      by_case n m c key (inr g) = by_test (is_at (use_cmp (m, c)) u) refl
        where
          by_test : (b : Bool) → is_at (use_cmp (m, c)) u ≡ b
              → (is_among numbers n ≡ true) ⊎ (has_use m c rest ≡ true)
          by_test true e =
              let same : c ≡ u.1 = ap (λ (x : Use). x.1) (same_use (m, c) u e) in
              absurd (true≢false (sym key ∙ ap (finmap.contains_key overlay) same ∙ none))
          by_test false e = inr (or_rest _ _ e (subst (λ (us : List Use). has_use m c us ≡ true) is g))

  -- the numbers of an entry are added
  pub gathering_adds : (new : List ℕ) → finmap.contains_key overlay u.1 ≡ true → u.0 ≤ last
      → AddsNumbers u.0 last u.1 lines numbers new → Gathering last overlay lines uses rest new
  gathering_adds new some high adds = record {
    sorted = sorted_tail u rest sorted_rest;
    within = λ m c has. h.within m c (later_has m c has);
    only = λ n has. only n (adds.only n has);
    all = λ n m c has key low top used. by_case n m c low top used (h.all n m c has key low top used);
  }
    where
      only : (n : ℕ) → (is_among numbers n ≡ true) ⊎ ((n ≤ last) × IsFrom u.0 u.1 lines n)
          → IsUsedBy last overlay lines uses n
      only n (inl has) = h.only n has
      only n (inr at) = (at.0, u.0, u.1, h.within u.0 u.1 here_has, some, at.1)

      by_case : (n m : ℕ) (c : Cell) → m ≤ n → n ≤ last → (n ≡ m) ⊎ (is_use n c lines ≡ true)
          → (is_among numbers n ≡ true) ⊎ (has_use m c all_rest ≡ true)
          → (is_among new n ≡ true) ⊎ (has_use m c rest ≡ true)
      by_case n m c low top used (inl g) = inl (adds.kept n g)
      by_case n m c low top used (inr g) = by_test (is_at (use_cmp (m, c)) u) refl
        where
          by_test : (b : Bool) → is_at (use_cmp (m, c)) u ≡ b
              → (is_among new n ≡ true) ⊎ (has_use m c rest ≡ true)
          by_test true e =
              let same = same_use (m, c) u e in
              let number : m ≡ u.0 = ap (λ (x : Use). x.0) same in
              let cell : c ≡ u.1 = ap (λ (x : Use). x.1) same in
              inl (adds.added n (omega (arith, number, low)) top
              (subst (λ k. (n ≡ k) ⊎ (is_use n u.1 lines ≡ true)) number
              (subst (λ d. (n ≡ m) ⊎ (is_use n d lines ≡ true)) cell used)))
          by_test false e = inr (or_rest _ _ e (subst (λ (us : List Use). has_use m c us ≡ true) is g))

  -- behind an entry at a number above the last one there is none at any other
  pub gathering_stops : last < u.0 → AreNumbersUntil last overlay lines uses numbers
  gathering_stops more = record {
    only = h.only;
    all = λ n m c has key low top used. by_case n m c low top (h.all n m c has key low top used);
  }
    where
      by_case : (n m : ℕ) (c : Cell) → m ≤ n → n ≤ last
          → (is_among numbers n ≡ true) ⊎ (has_use m c all_rest ≡ true) → is_among numbers n ≡ true
      by_case n m c low top (inl g) = g
      by_case n m c low top (inr g) =
          let le = least u rest m c sorted_rest (subst (λ (us : List Use). has_use m c us ≡ true) is g) in
          absurd (omega (arith, le, more, low, top))

pub gathering_ends : (last : ℕ) (overlay : OverlayMap) (lines : List Line) (uses rest : List Use) (numbers : List ℕ)
    → rest ≡ [] → Gathering last overlay lines uses rest numbers → AreNumbersUntil last overlay lines uses numbers
gathering_ends last overlay lines uses rest numbers is h = record {
  only = h.only;
  all = λ n m c has key low top used. by_case n m c (h.all n m c has key low top used);
}
  where
    by_case : (n m : ℕ) (c : Cell) → (is_among numbers n ≡ true) ⊎ (has_use m c rest ≡ true)
        → is_among numbers n ≡ true
    by_case n m c (inl g) = g
    by_case n m c (inr g) = absurd (has_none m c (subst (λ (us : List Use). has_use m c us ≡ true) is g))

-- ---- lists of numbers that rise

abbrev pub Under : ℕ → List ℕ → Type 0
Under n numbers = AllByRecursion (λ m. nat_cmp n m ≡ Less) numbers

among_under : (n m : ℕ) (numbers : List ℕ) → Under n numbers → is_among numbers m ≡ true → n < m
among_under n m [] under h = absurd (true≢false (sym h))
among_under n m (k ∷ numbers) under h = by_test (k == m) refl (among_under n m numbers under.1)
  where
    less : nat_cmp n k ≡ Less → n < k
    less e = grind (arith, common_steps, e)

    by_test : (b : Bool) → (k == m) ≡ b → (is_among numbers m ≡ true → n < m) → n < m
    by_test true e rest = let same = eqb-true k m e in let low = less under.0 in omega (arith, same, low)
    by_test false e rest = rest (or_rest _ _ e h)

head_among : (n : ℕ) (numbers : List ℕ) → is_among (n ∷ numbers) n ≡ true
head_among n numbers = or_first (n == n) _ (among_itself n)

-- lists that rise and have the same numbers are equal
pub same_numbers : (a b : List ℕ) → IsStrictlySortedBy nat_cmp a → IsStrictlySortedBy nat_cmp b
    → ((n : ℕ) → is_among a n ≡ true → is_among b n ≡ true) → ((n : ℕ) → is_among b n ≡ true → is_among a n ≡ true)
    → a ≡ b
unfolding IsStrictlySortedBy
same_numbers [] [] sa sb there back = refl
same_numbers [] (y ∷ b) sa sb there back = absurd (true≢false (sym (back y (head_among y b))))
same_numbers (x ∷ a) [] sa sb there back = absurd (true≢false (sym (there x (head_among x a))))
same_numbers (x ∷ a) (y ∷ b) sa sb there back =
    (λ i. same i ∷ same_numbers a b sa.1 sb.1 in_b in_a i)
  where
    not_below : (n m : ℕ) (ns : List ℕ) → Under m ns → is_among (m ∷ ns) n ≡ true → m ≤ n
    not_below n m ns under h = by_test (m == n) refl
      where
        by_test : (t : Bool) → (m == n) ≡ t → m ≤ n
        by_test true e = let eq = eqb-true m n e in omega (arith, eq)
        by_test false e = let more = among_under m n ns under (or_rest _ _ e h) in omega (arith, more)

    same : x ≡ y
    same =
        let low = not_below x y b sb.0 (there x (head_among x a)) in
        let high = not_below y x a sa.0 (back y (head_among y b)) in omega (arith, low, high)

    past : (n m : ℕ) (ns : List ℕ) → m < n → is_among (m ∷ ns) n ≡ true → is_among ns n ≡ true
    past n m ns less h = by_test (m == n) refl
      where
        by_test : (t : Bool) → (m == n) ≡ t → is_among ns n ≡ true
        by_test true e = let eq = eqb-true m n e in absurd (omega (arith, eq, less))
        by_test false e = or_rest _ _ e h

    in_b : (n : ℕ) → is_among a n ≡ true → is_among b n ≡ true
    in_b n h =
        let more = among_under x n a sa.0 h in let eq = same in
        past n y b (omega (arith, more, eq)) (there n (or_last (x == n) _ h))

    in_a : (n : ℕ) → is_among b n ≡ true → is_among a n ≡ true
    in_a n h =
        let more = among_under y n b sb.0 h in let eq = same in
        past n x a (omega (arith, more, eq)) (back n (or_last (y == n) _ h))

-- the numbers of lines that pass a test rise
picked_under : (n : ℕ) (p : Line → Bool) (lines : List Line) → RiseFrom n lines → Under n (numbers_of p lines)
picked_under n p [] rise = tt
picked_under n p (l ∷ lines) rise =
    subst (Under n) (sym (numbers_of_more p l lines))
    (by_test (p l) (weaker l.0 (numbers_of p lines) (above n l lines rise)
    (picked_under l.0 p lines (later n l lines rise))))
  where
    weaker : (m : ℕ) (ns : List ℕ) → n < m → Under m ns → Under n ns
    weaker m [] less under = tt
    weaker m (k ∷ ns) less under = (lesser m k less under.0, weaker m ns less under.1)
      where
        lesser : (a b : ℕ) → n < a → nat_cmp a b ≡ Less → nat_cmp n b ≡ Less
        lesser a b less e = grind (arith, common_steps, less, e)

    here : n < l.0 → nat_cmp n l.0 ≡ Less
    here less = grind (arith, common_steps, less)

    by_test : (b : Bool) → Under n (numbers_of p lines)
        → Under n (cond b (l.0 ∷ numbers_of p lines) (numbers_of p lines))
    by_test true rest = (here (above n l lines rise), rest)
    by_test false rest = rest

pub picked_sorted : (n : ℕ) (p : Line → Bool) (lines : List Line) → RiseFrom n lines
    → IsStrictlySortedBy nat_cmp (numbers_of p lines)
unfolding IsStrictlySortedBy
picked_sorted n p [] rise = tt
picked_sorted n p (l ∷ lines) rise =
    subst (IsStrictlySortedBy nat_cmp) (sym (numbers_of_more p l lines))
    (by_test (p l) (picked_sorted l.0 p lines (later n l lines rise)))
  where
    by_test : (b : Bool) → IsStrictlySortedBy nat_cmp (numbers_of p lines)
        → IsStrictlySortedBy nat_cmp (cond b (l.0 ∷ numbers_of p lines) (numbers_of p lines))
    by_test true rest = (picked_under l.0 p lines (later n l lines rise), rest)
    by_test false rest = rest

-- ---- the lines that use a cell of an overlay

-- a cell of some that passes a test
pub one_of : (p : Cell → Bool) (cells : List Cell) → list_any p cells ≡ true
    → (c : Cell) × (p c ≡ true) × (list_any (cell_eq c) cells ≡ true)
one_of p [] h = absurd (true≢false (sym h))
one_of p (d ∷ cells) h = by_test (p d) refl (one_of p cells)
  where
    by_test : (b : Bool) → p d ≡ b
        → (list_any p cells ≡ true → (c : Cell) × (p c ≡ true) × (list_any (cell_eq c) cells ≡ true))
        → (c : Cell) × (p c ≡ true) × (list_any (cell_eq c) (d ∷ cells) ≡ true)
    by_test true e rest = (d, e, or_first (cell_eq d d) _ (cell_itself d))
    by_test false e rest =
        let r = rest (or_rest _ _ e h) in (r.0, r.1, or_last (cell_eq r.0 d) _ r.2)

pub any_of : (p : Cell → Bool) (cells : List Cell) (c : Cell) → p c ≡ true → list_any (cell_eq c) cells ≡ true
    → list_any p cells ≡ true
any_of p [] c passes h = absurd (true≢false (sym h))
any_of p (d ∷ cells) c passes h = by_test (cell_eq c d) refl (any_of p cells c passes)
  where
    by_test : (b : Bool) → cell_eq c d ≡ b → (list_any (cell_eq c) cells ≡ true → list_any p cells ≡ true)
        → list_any p (d ∷ cells) ≡ true
    by_test true e rest = or_first (p d) _ (ap p (sym (same_cells c d e)) ∙ passes)
    by_test false e rest = or_last (p d) _ (rest (or_rest _ _ e h))

-- a line uses a cell with an entry
pub meets_key : (overlay : OverlayMap) (l : Line) → meets (finmap.keys overlay) l ≡ true
    → (c : Cell) × (touches l.1.notes c ≡ true) × (finmap.contains_key overlay c ≡ true)
meets_key overlay l h =
    let found = one_of (touches l.1.notes) (finmap.keys overlay) h in
    (found.0, found.1, contains_key-keys overlay found.0 ∙ found.2)

pub key_meets : (overlay : OverlayMap) (l : Line) (c : Cell) → touches l.1.notes c ≡ true
    → finmap.contains_key overlay c ≡ true → meets (finmap.keys overlay) l ≡ true
key_meets overlay l c touched key =
    any_of (touches l.1.notes) (finmap.keys overlay) c touched (sym (contains_key-keys overlay c) ∙ key)

-- a line with a number among some, that passes a test
abbrev pub IsLineAt : (Line → Bool) → ℕ → List Line → Type 0
IsLineAt p n [] = ⊥
IsLineAt p n (l ∷ lines) = ((l.0 ≡ n) × (p l ≡ true)) ⊎ IsLineAt p n lines

pub picked_at : (p : Line → Bool) (n : ℕ) (lines : List Line) → is_among (numbers_of p lines) n ≡ true
    → IsLineAt p n lines
picked_at p n [] h = absurd (true≢false (sym h))
picked_at p n (l ∷ lines) h =
    by_test (p l) refl (sym (ap (λ ns. is_among ns n) (numbers_of_more p l lines)) ∙ h) (picked_at p n lines)
  where
    by_test : (b : Bool) → p l ≡ b → is_among (cond b (l.0 ∷ numbers_of p lines) (numbers_of p lines)) n ≡ true
        → (is_among (numbers_of p lines) n ≡ true → IsLineAt p n lines) → IsLineAt p n (l ∷ lines)
    by_test true e g rest = by_number (l.0 == n) refl
      where
        by_number : (b : Bool) → (l.0 == n) ≡ b → IsLineAt p n (l ∷ lines)
        by_number true f = inl (eqb-true l.0 n f, e)
        by_number false f = inr (rest (or_rest _ _ f g))
    by_test false e g rest = inr (rest g)

pub at_picked : (p : Line → Bool) (n : ℕ) (lines : List Line) → IsLineAt p n lines
    → is_among (numbers_of p lines) n ≡ true
at_picked p n [] h = absurd h
at_picked p n (l ∷ lines) (inl h) =
    ap (λ ns. is_among ns n) (numbers_of_more p l lines)
    ∙ ap (λ b. is_among (cond b (l.0 ∷ numbers_of p lines) (numbers_of p lines)) n) h.1
    ∙ or_first (l.0 == n) _ (eq-eqb l.0 n h.0)
at_picked p n (l ∷ lines) (inr h) =
    ap (λ ns. is_among ns n) (numbers_of_more p l lines) ∙ by_test (p l) (at_picked p n lines h)
  where
    by_test : (b : Bool) → is_among (numbers_of p lines) n ≡ true
        → is_among (cond b (l.0 ∷ numbers_of p lines) (numbers_of p lines)) n ≡ true
    by_test true g = or_last (l.0 == n) _ g
    by_test false g = g

-- a use at a number that isn't below another use from a place on is from that place on
pub use_from : (low : ℕ) (lines : List Line) (k n m : ℕ) (c d : Cell) → RiseFrom low lines
    → is_use m d (drop k lines) ≡ true → m ≤ n → is_use n c lines ≡ true → is_use n c (drop k lines) ≡ true
use_from low lines zero n m c d rise other le used = used
use_from low [] (suc k) n m c d rise other le used = used
use_from low (l ∷ lines) (suc k) n m c d rise other le used =
    use_from l.0 lines k n m c d (later low l lines rise) other le
    (past (use_above l.0 (drop k lines) m d (rising l.0 lines k (later low l lines rise)) other))
  where
    rising : (b : ℕ) (ls : List Line) (j : ℕ) → RiseFrom b ls → RiseFrom b (drop j ls)
    rising b ls j r = rise_from b ls j r

    past : l.0 < m → is_use n c lines ≡ true
    past less = use_past l lines n c (apart l.0 n (omega (arith, less, le))) used

pub use_back : (lines : List Line) (k n : ℕ) (c : Cell) → is_use n c (drop k lines) ≡ true → is_use n c lines ≡ true
use_back lines zero n c used = used
use_back [] (suc k) n c used = used
use_back (l ∷ lines) (suc k) n c used = later_use l lines n c (use_back lines k n c used)

-- a use up to the number of a line is by a line up to it
pub use_within : (low : ℕ) (p : Line → Bool) (lines : List Line) (j n : ℕ) (c : Cell) (d : Line) → RiseFrom low lines
    → slice_get lines j ≡ Some d → n ≤ d.0 → ((l : Line) → touches l.1.notes c ≡ true → p l ≡ true)
    → is_use n c lines ≡ true → IsLineAt p n (take (suc j) lines)
use_within low p [] j n c d rise at le passes used = absurd (true≢false (sym used))
use_within low p (l ∷ lines) j n c d rise at le passes used =
    by_test ((l.0 == n) && touches l.1.notes c) refl
    (λ i e more. use_within l.0 p lines i n c d (later low l lines rise) e le passes more)
  where
    after_it : (i : ℕ) → slice_get (l ∷ lines) i ≡ Some d → is_use n c lines ≡ true
        → ((i : ℕ) → slice_get lines i ≡ Some d → is_use n c lines ≡ true → IsLineAt p n (take (suc i) lines))
        → IsLineAt p n (take (suc i) (l ∷ lines))
    after_it zero e more rest =
        let same : l ≡ d = some_same l d e in
        let number : l.0 ≡ d.0 = ap (λ (x : Line). x.0) same in
        let less = use_above l.0 lines n c (later low l lines rise) more in
        absurd (omega (arith, less, le, number))
    after_it (suc i) e more rest = inr (rest i e more)

    by_test : (b : Bool) → ((l.0 == n) && touches l.1.notes c) ≡ b
        → ((i : ℕ) → slice_get lines i ≡ Some d → is_use n c lines ≡ true → IsLineAt p n (take (suc i) lines))
        → IsLineAt p n (take (suc j) (l ∷ lines))
    by_test true e rest = inl (eqb-true l.0 n (first_true (l.0 == n) _ e), passes l (both_true (l.0 == n) _ e))
    by_test false e rest = after_it j at (or_rest _ _ e used) rest

-- a line up to another isn't above its number, and one that meets an overlay uses a cell with an
-- entry
pub within_use : (low : ℕ) (overlay : OverlayMap) (lines : List Line) (j n : ℕ) (d : Line) → RiseFrom low lines
    → slice_get lines j ≡ Some d → IsLineAt (meets (finmap.keys overlay)) n (take (suc j) lines)
    → (n ≤ d.0) × (c : Cell) × (is_use n c lines ≡ true) × (finmap.contains_key overlay c ≡ true)
within_use low overlay [] j n d rise at h = absurd h
within_use low overlay (l ∷ lines) j n d rise at (inl h) =
    let key = meets_key overlay l h.1 in (
      not_above j at,
      key.0,
      or_first ((l.0 == n) && touches l.1.notes key.0) _ (and_true (l.0 == n) _ (eq-eqb l.0 n h.0) key.1),
      key.2,
    )
  where
    not_above : (i : ℕ) → slice_get (l ∷ lines) i ≡ Some d → n ≤ d.0
    not_above zero e = let same = ap (λ (x : Line). x.0) (some_same l d e) in let here = h.0 in omega (arith, same, here)
    not_above (suc i) e =
        let more = above_at l.0 lines i d (later low l lines rise) e in let here = h.0 in omega (arith, more, here)
within_use low overlay (l ∷ lines) zero n d rise at (inr h) = absurd h
within_use low overlay (l ∷ lines) (suc j) n d rise at (inr h) =
    let r = within_use l.0 overlay lines j n d (later low l lines rise) at h in
    (r.0, r.1, later_use l lines n r.1 r.2, r.3)

-- the first use of a cell isn't after another
pub first_soon : (low : ℕ) (c : Cell) (lines : List Line) (n : ℕ) → RiseFrom low lines → is_use n c lines ≡ true
    → (k : ℕ) × (first_use c lines ≡ Some k) × (k ≤ n)
first_soon low c [] n rise used = absurd (true≢false (sym used))
first_soon low c (l ∷ lines) n rise used =
    by_test (touches l.1.notes c) refl (first_soon l.0 c lines n (later low l lines rise))
  where
    by_number : (b : Bool) → ((l.0 == n) && touches l.1.notes c) ≡ b → l.0 ≤ n
    by_number true e = let same = eqb-true l.0 n (first_true (l.0 == n) _ e) in omega (arith, same)
    by_number false e =
        let more = use_above l.0 lines n c (later low l lines rise) (or_rest _ _ e used) in omega (arith, more)

    not_here : touches l.1.notes c ≡ false → (b : Bool) → ((l.0 == n) && touches l.1.notes c) ≡ b
        → is_use n c lines ≡ true
    not_here out true e = absurd (true≢false (sym (both_true (l.0 == n) _ e) ∙ out))
    not_here out false e = or_rest _ _ e used

    by_test : (b : Bool) → touches l.1.notes c ≡ b
        → (is_use n c lines ≡ true → (k : ℕ) × (first_use c lines ≡ Some k) × (k ≤ n))
        → (k : ℕ) × (first_use c (l ∷ lines) ≡ Some k) × (k ≤ n)
    by_test true e rest =
        (l.0, first_at_head l lines c e, by_number ((l.0 == n) && touches l.1.notes c) refl)
    by_test false e rest =
        let r = rest (not_here e ((l.0 == n) && touches l.1.notes c) refl) in
        (r.0, first_past l lines c e ∙ r.1, r.2)
