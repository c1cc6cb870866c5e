-- Edits by the numbers of their lines.
use Rattle.std.proofs.Common.{◌≡◌, ◌∙◌, ℕ, ◌==◌, Bool, true, false, List, [], ◌∷◌, cond, Option}
use Rattle.std.proofs.Common.{None, Some, refl, ap, sym, arith, subst, ◌≤◌, ◌<◌, ◌⊎◌, inl, inr, Bor}
use Rattle.std.proofs.Common.{IfSome, IsSome, Less, Equal}
use Rattle.std.specs.FinMap as map_of
use Rattle.std.specs.FinMap.{get-insert}
use Rattle.std.specs.Option.{is_some, option_or}
use Rattle.std.specs.Ordering.{is_gt, nat_cmp}
use Rattle.std.specs.BTreeMap.{BTreeMap, get}
use Rattle.std.specs.Cmp.{nat_cmp_is, nat_cmp_total, unsigned_ties}
use Rattle.std.specs.List.{slice_get}
use Rattle.std.specs.Map.Iter.{TakesFirst, deref_pair}
use Rattle.std.proofs.lemmas.Bool.{cases_order, eq-eqb, eqb-true, false≢true}
use Rattle.std.proofs.lemmas.Map.Keys.{le_from_not_gt}
use Rattle.retro_keep.specs.Edit.{IsNextFrom, edit_of, edited_number}
use Rattle.retro_keep.specs.declared.edit.Edit.{Edit}

flipped : (n m : ℕ) → (n == m) ≡ (m == n)
flipped n m = by_test (m == n) refl
  where
    by_test : (b : Bool) → (m == n) ≡ b → (n == m) ≡ b
    by_test true e = eq-eqb n m (sym (eqb-true m n e))
    by_test false e = grind (arith, eqb-true m n)

or_none : (e : Option Edit) → e ≡ option_or e None
or_none None = refl
or_none (Some e) = refl

-- a further edit of a line doesn't count
pub edit_kept : (m : map_of.FinMap nat_cmp Edit) (e : Edit)
    → map_of.contains_key m (edited_number e) ≡ true
    → (n : ℕ) → map_of.get m n ≡ option_or (map_of.get m n) (edit_of (e ∷ []) n)
edit_kept m e has n = by_tests (edited_number e == n) (map_of.get m n) refl refl
  where
    by_tests : (b : Bool) (old : Option Edit) → (edited_number e == n) ≡ b → map_of.get m n ≡ old
        → old ≡ option_or old (cond b (Some e) None)
    by_tests b (Some old) same is = refl
    by_tests false None same is = refl
    by_tests true None same is =
        let there = ap (map_of.get m) (sym (eqb-true (edited_number e) n same)) in
        absurd (false≢true (ap is_some (sym is ∙ there) ∙ has))

-- the first edit of a line is added
pub edit_added : (m : map_of.FinMap nat_cmp Edit) (e : Edit)
    → map_of.contains_key m (edited_number e) ≡ false
    → (n : ℕ) → map_of.get (map_of.insert m (edited_number e) e) n
    ≡ option_or (map_of.get m n) (edit_of (e ∷ []) n)
edit_added m e new n =
    get-insert nat_cmp_total m (edited_number e) e n
    ∙ ap (λ b. cond b (Some e) (map_of.get m n))
    (sym (unsigned_ties n (edited_number e)) ∙ flipped n (edited_number e))
    ∙ by_tests (edited_number e == n) (map_of.get m n) refl refl
  where
    by_tests : (b : Bool) (old : Option Edit) → (edited_number e == n) ≡ b → map_of.get m n ≡ old
        → cond b (Some e) old ≡ option_or old (cond b (Some e) None)
    by_tests true None same is = refl
    by_tests false old same is = or_none old
    by_tests true (Some old) same is =
        let there = ap (map_of.get m) (eqb-true (edited_number e) n same) in
        absurd (false≢true (sym new ∙ ap is_some (there ∙ is)))

-- ---- the next number of a map

-- a number from another one on, as a range has it
abbrev IsFrom : ℕ → ℕ → Type 0
IsFrom from n = (is_gt (nat_cmp from n) ≡ false) × Unit {0}

is_from : (from n : ℕ) → from ≤ n → IsFrom from n
is_from from n le = (by_order (cases_order from n), tt)
  where
    by_order : (from ≡ n) ⊎ ((from < n) ⊎ (n < from)) → is_gt (nat_cmp from n) ≡ false
    by_order (inl same) = ap is_gt (sym (nat_cmp_is from n Equal same))
    by_order (inr (inl less)) = ap is_gt (sym (nat_cmp_is from n Less less))
    by_order (inr (inr more)) = absurd (omega (arith, le, more))

-- the key of an entry that a search returned
abbrev pub key_found : Option (Bor ℕ × Bor Edit) → Option ℕ
key_found None = None
key_found (Some x) = Some x.0.now

-- the first entry of a range without end has the next number
pub next_number : (m : BTreeMap ℕ Edit) (from : ℕ) (range : List (ℕ × Edit))
    (found : Option (Bor ℕ × Bor Edit))
    (rest : List (ℕ × Edit))
    → IfSome (slice_get range 0) (λ e. IsFrom from e.0 × (get nat_cmp m e.0 ≡ Some e.1))
    → ((q : ℕ) → IsFrom from q → IsSome (get nat_cmp m q)
    → IfSome (slice_get range 0) (λ e. is_gt (nat_cmp e.0 q) ≡ false))
    → (range ≡ [] → (q : ℕ) → IsFrom from q → get nat_cmp m q ≡ None)
    → TakesFirst deref_pair range found rest
    → IsNextFrom (λ n. is_some (get nat_cmp m n)) from (key_found found)
next_number m from range found rest first least none steps = by_found found steps
  where
    head : (e : ℕ × Edit) → range ≡ e ∷ rest → slice_get range 0 ≡ Some e
    head e is = ap (λ r. slice_get r 0) is

    least_of : (e : ℕ × Edit) → range ≡ e ∷ rest → (n : ℕ) → from ≤ n → n < e.0 → (b : Bool)
        → is_some (get nat_cmp m n) ≡ b → is_some (get nat_cmp m n) ≡ false
    least_of e is n low high false f = f
    least_of e is n low high true f =
        let le = le_from_not_gt e.0 n
        (subst (λ o. IfSome o (λ k. is_gt (nat_cmp k.0 n) ≡ false)) (head e is)
        (least n (is_from from n low) f)) in absurd (omega (arith, le, high))

    by_found : (o : Option (Bor ℕ × Bor Edit)) → TakesFirst deref_pair range o rest
        → IsNextFrom (λ n. is_some (get nat_cmp m n)) from (key_found o)
    by_found None is = λ n le. ap is_some (none is.0 n (is_from from n le))
    by_found (Some x) is =
        let at = subst (λ o. IfSome o (λ e. IsFrom from e.0 × (get nat_cmp m e.0 ≡ Some e.1)))
        (head (deref_pair x) is) first in (
          le_from_not_gt from x.0.now at.0.0,
          ap is_some at.1,
          λ n low high. least_of (deref_pair x) is n low high (is_some (get nat_cmp m n)) refl,
        )
