-- A variable that is added to those of a session.
use Rattle.std.proofs.Common.{◌≡◌, ◌∙◌, ◌==◌, ◌&&◌, ◌||◌, ap, arith, cond, refl, sym, ℕ, Bool, true, false, List, [], Option, Some}
use Rattle.std.specs.BTreeMap.{BTreeMap, get, is_at}
use Rattle.std.specs.BTreeSet as set
use Rattle.std.specs.BTreeSet.{BTreeSet}
use Rattle.std.specs.List.{list_any}
use Rattle.std.specs.Option.{option_map_or}
use Rattle.std.specs.Ordering.{is_eq, nat_cmp}
use Rattle.std.proofs.lemmas.Bool.{eqb-true}
use Rattle.std.proofs.lemmas.Bool.Decides.{nat_tests}
use Rattle.std.proofs.lemmas.Grind.{common_steps}
use Rattle.retro_tree.specs.Order.{text_cmp, text_eq, text_ties}

same_number : (m n : ℕ) → is_eq (nat_cmp m n) ≡ (m == n)
same_number m n = grind (arith, common_steps, nat_tests)

-- whether the names of a session, if there are any, have a name
abbrev pub has : List ℕ → Option (BTreeSet (List ℕ)) → Bool
has name names = option_map_or (λ s. set.contains text_cmp s name) names false

or_false : (b : Bool) → b ≡ (b || false)
or_false true = refl
or_false false = refl

pub or_assoc : (a b c : Bool) → (a || (b || c)) ≡ ((a || b) || c)
or_assoc true b c = refl
or_assoc false b c = refl

or_swap : (a b : Bool) → cond b true a ≡ (a || b)
or_swap true true = refl
or_swap true false = refl
or_swap false true = refl
or_swap false false = refl

pub nothing_in : (v : BTreeSet (List ℕ)) → v.keys ≡ [] → (m : List ℕ) → set.contains text_cmp v m ≡ false
nothing_in v none m = ap (λ ks. list_any (is_at (text_cmp m)) ks) none

module _ (old new : BTreeMap ℕ (BTreeSet (List ℕ))) (sid : ℕ) (name : List ℕ) (v : BTreeSet (List ℕ)) where
  pub added : ((q : ℕ) → get nat_cmp new q ≡ cond (is_at (nat_cmp sid) q) (Some v) (get nat_cmp old q))
      → ((m : List ℕ) → set.contains text_cmp v m ≡ cond (is_at (text_cmp name) m) true (has m (get nat_cmp old sid)))
      → (q : ℕ) (m : List ℕ) → has m (get nat_cmp new q) ≡ (has m (get nat_cmp old q) || ((sid == q) && text_eq name m))
  added updates names q m =
      ap (has m) (updates q ∙ ap (λ b. cond b (Some v) (get nat_cmp old q)) (same_number sid q))
      ∙ by_test (sid == q) refl
    where
      by_test : (b : Bool) → (sid == q) ≡ b
          → has m (cond b (Some v) (get nat_cmp old q)) ≡ (has m (get nat_cmp old q) || (b && text_eq name m))
      by_test true e =
          names m ∙ ap (λ b. cond b true (has m (get nat_cmp old sid))) (sym (text_ties name m))
          ∙ or_swap (has m (get nat_cmp old sid)) (text_eq name m)
          ∙ ap (λ k. has m (get nat_cmp old k) || text_eq name m) (eqb-true sid q e)
      by_test false e = or_false (has m (get nat_cmp old q))
