-- Sets of numbers.
use Rattle.std.proofs.Common.{◌≡◌, ◌∙◌, ◌==◌, ℕ, Bool, true, false, sym, ap, refl, arith}
use Rattle.std.specs.List.{list_any}
use Rattle.std.specs.Ordering.{nat_cmp}
use Rattle.std.specs.BTreeSet.{BTreeSet, contains}
use Rattle.std.specs.Cmp.{unsigned_ties}
use Rattle.std.proofs.lemmas.Bool.{eqb-true, eq-eqb}
use Rattle.retro_keep.specs.Edit.{is_among}

flipped : (n m : ℕ) → (n == m) ≡ (m == n)
flipped n m = by_test (m == n) refl
  where
    by_test : (b : Bool) → (m == n) ≡ b → (n == m) ≡ b
    by_test true e = eq-eqb n m (sym (eqb-true m n e))
    by_test false e = grind (arith, eqb-true m n)

-- a set has the numbers of its keys
pub contains_among : (set : BTreeSet ℕ) (n : ℕ) → contains nat_cmp set n ≡ is_among set.keys n
contains_among set n =
    ap (λ (p : ℕ → Bool). list_any p set.keys) (λ i m. (sym (unsigned_ties n m) ∙ flipped n m) i)
