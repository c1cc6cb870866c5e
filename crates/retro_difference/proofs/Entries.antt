-- Entries of next uses: their order, and what adding some keeps.
use Rattle.std.proofs.Common.{◌≡◌, ◌∙◌, ◌⊎◌, inl, inr, ℕ, ◌<◌, ◌≤◌, nat_lt, Bool, true, false, ◌&&◌, ◌||◌, cond}
use Rattle.std.proofs.Common.{List, [], ◌∷◌, Option, Some, None, IfSome, refl, sym, ap, subst, arith, Less}
use Rattle.std.specs.Option.{IfNone}
use Rattle.std.specs.List.{AllByRecursion, list_any}
use Rattle.std.specs.List.Sorted.{IsStrictlySortedBy}
use Rattle.std.specs.Ordering.{is_eq, nat_cmp, ordering_then}
use Rattle.std.specs.BTreeMap.{is_at}
use Rattle.std.specs.Cmp.{IsTotalOrder, nat_cmp_total, on_total, then_total, tied_itself}
use Rattle.std.specs.FinMap as finmap
use Rattle.std.specs.FinMap.{nat_cmp-IsAntisymmetric}
use Rattle.std.specs.declared.cmp.Ordering.{Ordering}
use Rattle.std.specs.declared.cmp.Ordering.TheVariants as orders
use Rattle.std.proofs.lemmas.Bool.{true≢false, lt-ltb}
use Rattle.std.proofs.lemmas.Grind.{common_steps}
use Rattle.retro_tree.specs.CellOrder.{cell_cmp, cell_exact, cell_total}
use Rattle.retro_tree.specs.Overlay.{OverlayMap}
use Rattle.retro_tree.specs.declared.cell.Cell.{Cell}
use Rattle.retro_tree.proofs.Small.{and_true, or_first, or_last, tied}
use Rattle.retro_history.specs.Index.{Line, next_use}
use Rattle.retro_difference.specs.NextUses.{AddsUses, AreSorted, HasNext, Use, has_use}
use Rattle.retro_difference.specs.NextUses.{is_first_over, use_cmp}

pub or_rest : (a b : Bool) → a ≡ false → (a || b) ≡ true → b ≡ true
or_rest a b e h = sym (ap (λ x. x || b) e) ∙ h

-- ---- the order of entries

use_total : IsTotalOrder use_cmp
use_total = then_total (on_total (λ (u : Use). u.0) nat_cmp_total) (on_total (λ (u : Use). u.1) cell_total)

both_equal : (a b : Ordering) → ordering_then a b ≡ orders.Equal → (a ≡ orders.Equal) × (b ≡ orders.Equal)
both_equal orders.Less b e = (e, cc)
both_equal orders.Equal b e = (refl, e)
both_equal orders.Greater b e = (e, cc)

-- entries that compare equal are equal
pub same_use : (x y : Use) → is_at (use_cmp x) y ≡ true → x ≡ y
same_use x y e =
    let h = both_equal (nat_cmp x.0 y.0) (cell_cmp x.1 y.1) (tied _ e) in
    λ i. (nat_cmp-IsAntisymmetric x.0 y.0 h.0 i, cell_exact x.1 y.1 h.1 i)

pub use_itself : (u : Use) → is_at (use_cmp u) u ≡ true
use_itself u = ap is_eq (tied_itself use_total u)

less_le : (k x : ℕ) → nat_cmp k x ≡ Less → k ≤ x
less_le k x h = grind (arith, common_steps, h)

-- an entry that comes before another has no greater number
number_le : (x y : Use) → use_cmp x y ≡ Less → x.0 ≤ y.0
number_le x y h = go (nat_cmp x.0 y.0) refl h
  where
    go : (o : Ordering) → nat_cmp x.0 y.0 ≡ o → ordering_then o (cell_cmp x.1 y.1) ≡ Less → x.0 ≤ y.0
    go orders.Less e h = less_le x.0 y.0 e
    go orders.Equal e h = let same = nat_cmp-IsAntisymmetric x.0 y.0 e in omega (arith, same)
    go orders.Greater e h = cc

-- ---- which entries there are

pub head_has : (u : Use) (uses : List Use) → has_use u.0 u.1 (u ∷ uses) ≡ true
head_has u uses = or_first (is_at (use_cmp u) u) _ (use_itself u)

pub has_none : (n : ℕ) (c : Cell) → has_use n c [] ≡ true → ⊥
has_none n c h = true≢false (sym h)

-- no entry has a lesser number than the first one
pub least : (u : Use) (uses : List Use) (n : ℕ) (c : Cell) → AreSorted (u ∷ uses) → has_use n c (u ∷ uses) ≡ true
    → u.0 ≤ n
unfolding IsStrictlySortedBy
least u uses n c sorted has = by_test (is_at (use_cmp (n, c)) u) refl
  where
    at : (y : Use) → is_at (use_cmp (n, c)) y ≡ true → n ≡ y.0
    at y e = ap (λ (x : Use). x.0) (same_use (n, c) y e)

    later : (ys : List Use) → AllByRecursion (λ y. use_cmp u y ≡ Less) ys → has_use n c ys ≡ true → u.0 ≤ n
    later [] all h = absurd (has_none n c h)
    later (y ∷ ys) all h = go (is_at (use_cmp (n, c)) y) refl (later ys all.1)
      where
        go : (b : Bool) → is_at (use_cmp (n, c)) y ≡ b → (has_use n c ys ≡ true → u.0 ≤ n) → u.0 ≤ n
        go true e rest = let same = at y e in let le = number_le u y all.0 in omega (arith, same, le)
        go false e rest = rest (or_rest _ _ e h)

    by_test : (b : Bool) → is_at (use_cmp (n, c)) u ≡ b → u.0 ≤ n
    by_test true e = let same = at u e in omega (arith, same)
    by_test false e = later uses sorted.0 (or_rest _ _ e has)

pub sorted_tail : (u : Use) (uses : List Use) → AreSorted (u ∷ uses) → AreSorted uses
unfolding IsStrictlySortedBy
sorted_tail u uses sorted = sorted.1

pub no_uses_sorted : AreSorted []
unfolding IsStrictlySortedBy
no_uses_sorted = tt

-- ---- adding entries

pub adds_none : (after : ℕ) (lines : List Line) (uses : List Use) → AddsUses after lines uses uses
adds_none after lines uses = record { kept = λ n c h. h; only = λ n c h. inl h; sorted = λ s. s }

pub adds_both : (after : ℕ) (lines : List Line) (a b d : List Use) → AddsUses after lines a b
    → AddsUses after lines b d → AddsUses after lines a d
adds_both after lines a b d one two = record {
  kept = λ n c h. two.kept n c (one.kept n c h);
  only = λ n c h. go n c (two.only n c h);
  sorted = λ s. two.sorted (one.sorted s);
}
  where
    go : (n : ℕ) (c : Cell) → (has_use n c b ≡ true) ⊎ (next_use after c lines ≡ Some n)
        → (has_use n c a ≡ true) ⊎ (next_use after c lines ≡ Some n)
    go n c (inl h) = one.only n c h
    go n c (inr h) = inr h

pub next_kept : (after : ℕ) (lines : List Line) (c : Cell) (a b : List Use) → AddsUses after lines a b
    → HasNext after lines c a → HasNext after lines c b
next_kept after lines c a b adds h n e = adds.kept n c (h n e)

-- one entry was added to a set, or wasn't
pub one_kept : (old new : List Use) (key : Use) → ((u : Use) → list_any (is_at (use_cmp u)) new
    ≡ cond (is_at (use_cmp key) u) true (list_any (is_at (use_cmp u)) old))
    → (n : ℕ) (c : Cell) → has_use n c old ≡ true → has_use n c new ≡ true
one_kept old new key updates n c has =
    updates (n, c) ∙ ap (λ b. cond (is_at (use_cmp key) (n, c)) true b) has ∙ either (is_at (use_cmp key) (n, c))
  where
    either : (b : Bool) → cond b true true ≡ true
    either true = refl
    either false = refl

pub one_only : (old new : List Use) (key : Use) → ((u : Use) → list_any (is_at (use_cmp u)) new
    ≡ cond (is_at (use_cmp key) u) true (list_any (is_at (use_cmp u)) old))
    → (n : ℕ) (c : Cell) → has_use n c new ≡ true → (has_use n c old ≡ true) ⊎ ((n ≡ key.0) × (c ≡ key.1))
one_only old new key updates n c has = by_test (is_at (use_cmp key) (n, c)) refl
  where
    by_test : (b : Bool) → is_at (use_cmp key) (n, c) ≡ b → (has_use n c old ≡ true) ⊎ ((n ≡ key.0) × (c ≡ key.1))
    by_test true e =
        let same = same_use key (n, c) e in
        inr (ap (λ (u : Use). u.0) (sym same), ap (λ (u : Use). u.1) (sym same))
    by_test false e =
        inl (sym (sym has ∙ updates (n, c) ∙ ap (λ b. cond b true (list_any (is_at (use_cmp (n, c))) old)) e))

-- ---- removing the first entry

pub popped_only : (old new : List Use) (popped : Option Use) → IfSome popped (λ u. old ≡ u ∷ new)
    → IfNone popped (new ≡ old) → (n : ℕ) (c : Cell) → has_use n c new ≡ true → has_use n c old ≡ true
popped_only old new None some none n c has = subst (λ (us : List Use). has_use n c us ≡ true) none has
popped_only old new (Some u) some none n c has =
    subst (λ (us : List Use). has_use n c us ≡ true) (sym some) (or_last (is_at (use_cmp (n, c)) u) _ has)

pub popped_kept : (after : ℕ) (overlay : OverlayMap) (old new : List Use) (popped : Option Use)
    → is_first_over after overlay old ≡ false → IfSome popped (λ u. old ≡ u ∷ new) → IfNone popped (new ≡ old)
    → (n : ℕ) (c : Cell) → after < n → finmap.contains_key overlay c ≡ true → has_use n c old ≡ true
    → has_use n c new ≡ true
popped_kept after overlay old new None over some none n c more key has =
    subst (λ (us : List Use). has_use n c us ≡ true) (sym none) has
popped_kept after overlay old new (Some u) over some none n c more key has = by_test (is_at (use_cmp (n, c)) u) refl
  where
    by_test : (b : Bool) → is_at (use_cmp (n, c)) u ≡ b → has_use n c new ≡ true
    by_test true e =
        let same = same_use (n, c) u e in
        let first = subst (λ (x : Use). (nat_lt after x.0 && finmap.contains_key overlay x.1) ≡ true) same
        (and_true (nat_lt after n) _ (lt-ltb after n more) key) in
        absurd (true≢false (sym first ∙ sym (ap (is_first_over after overlay) some) ∙ over))
    by_test false e = or_rest _ _ e (subst (λ (us : List Use). has_use n c us ≡ true) some has)
