-- Edited numbers that are added to a set one by one.
use Rattle.std.proofs.Common.{◌≡◌, ◌∙◌, ◌⊎◌, inl, inr, ◌==◌, ◌+◌, ◌≤◌, ◌<◌, ℕ, Bool, true, false, cond, nat_lt}
use Rattle.std.proofs.Common.{List, Some, arith, refl, subst, sym}
use Rattle.std.proofs.lemmas.Bool.{eq-eqb, eqb-true, ltb-false, ltb-true, true≢false}
use Rattle.retro_keep.specs.Edit.{IsNextFrom, is_among}
use Rattle.retro_redo.specs.inner.Meetings.{AddsEdited}
use Rattle.retro_difference.proofs.Meetings.{key_added, only_added, others_kept}

-- the edited numbers below another one were added
pub record Marking (is_edited : ℕ → Bool) (from last low : ℕ) (old new : List ℕ) : Type 0 where
  pub above : from ≤ low
  pub kept : (n : ℕ) → is_among old n ≡ true → is_among new n ≡ true
  pub only : (n : ℕ) → is_among new n ≡ true
      → (is_among old n ≡ true) ⊎ ((from ≤ n) × (n ≤ last) × (is_edited n ≡ true))
  pub added : (n : ℕ) → from ≤ n → n < low → n ≤ last → is_edited n ≡ true → is_among new n ≡ true

pub marking_starts : (is_edited : ℕ → Bool) (from last : ℕ) (old : List ℕ)
    → Marking is_edited from last from old old
marking_starts is_edited from last old = record {
  above = omega arith;
  kept = λ n h. h;
  only = λ n h. inl h;
  added = λ n low less top is. absurd (omega (arith, low, less));
}

below : (n m : ℕ) → n ≤ m → (m == n) ≡ false → n < m
below n m le other = by_test (nat_lt n m) refl
  where
    by_test : (b : Bool) → nat_lt n m ≡ b → n < m
    by_test true e = ltb-true n m e
    by_test false e =
        let more = ltb-false n m e in absurd (true≢false (sym (eq-eqb m n (omega (arith, le, more))) ∙ other))

module _ (is_edited : ℕ → Bool) (from last low : ℕ) (old mid : List ℕ)
    (h : Marking is_edited from last low old mid) where
  pub marking_goes_on : (new : List ℕ) (m next : ℕ) → IsNextFrom is_edited low (Some m) → m ≤ last → next ≡ m + 1
      → ((n : ℕ) → is_among new n ≡ cond (m == n) true (is_among mid n))
      → Marking is_edited from last next old new
  marking_goes_on new m next first top is updates = record {
    above = let here = h.above in let up = first.0 in omega (arith, here, up, is);
    kept = λ n has. others_kept mid new m updates n (h.kept n has);
    only = λ n has. only n (only_added mid new m updates n has);
    added = added;
  }
    where
      only : (n : ℕ) → (is_among mid n ≡ true) ⊎ (n ≡ m)
          → (is_among old n ≡ true) ⊎ ((from ≤ n) × (n ≤ last) × (is_edited n ≡ true))
      only n (inl has) = h.only n has
      only n (inr same) =
          let here = h.above in let up = first.0 in
          inr (
            omega (arith, same, here, up),
            omega (arith, same, top),
            subst (λ k. is_edited k ≡ true) (sym same) first.1,
          )

      added : (n : ℕ) → from ≤ n → n < next → n ≤ last → is_edited n ≡ true → is_among new n ≡ true
      added n from_le less within edited = by_test (m == n) refl
        where
          by_low : (b : Bool) → nat_lt n low ≡ b → (m == n) ≡ false → is_among new n ≡ true
          by_low true g f = others_kept mid new m updates n (h.added n from_le (ltb-true n low g) within edited)
          by_low false g f =
              absurd (true≢false (sym edited
              ∙ first.2 n (ltb-false n low g) (below n m (omega (arith, less, is)) f)))

          by_test : (b : Bool) → (m == n) ≡ b → is_among new n ≡ true
          by_test true f = subst (λ k. is_among new k ≡ true) (eqb-true m n f) (key_added mid new m updates)
          by_test false f = by_low (nat_lt n low) refl f

  -- if no number is left
  pub marking_ends : ((n : ℕ) → low ≤ n → n ≤ last → is_edited n ≡ false)
      → AddsEdited is_edited from last old mid
  marking_ends none = record {
    kept = h.kept;
    only = h.only;
    added = λ n from_le top is. by_test n from_le top is (nat_lt n low) refl;
  }
    where
      by_test : (n : ℕ) → from ≤ n → n ≤ last → is_edited n ≡ true → (b : Bool) → nat_lt n low ≡ b
          → is_among mid n ≡ true
      by_test n from_le top is true e = h.added n from_le (ltb-true n low e) top is
      by_test n from_le top is false e = absurd (true≢false (sym is ∙ none n (ltb-false n low e) top))
