-- When keys of maps are equal.
use Rattle.std.proofs.Common.{◌≡◌, ◌∙◌, ℕ, Bool, true, false, cond, ◌&&◌, ◌==◌, List, refl, sym}
use Rattle.std.proofs.Common.{Option, Some}
use Rattle.std.specs.Prelude.{unwrap_or}
use Rattle.std.specs.Cmp.{unsigned_ties}
use Rattle.std.specs.Ordering.{is_eq, nat_cmp, ordering_then}
use Rattle.std.specs.declared.cmp.Ordering.{Ordering}
use Rattle.std.specs.declared.cmp.Ordering.TheVariants.{Less, Equal, Greater}
use Rattle.std.proofs.lemmas.Cmp.{nat_eq_equiv, nat_list_eq_equiv}
use Rattle.retro_path.specs.Order.{text_cmp, text_eq, text_ties}

both : (r t : Ordering) → is_eq (ordering_then r t) ≡ (is_eq r && is_eq t)
both Less t = refl
both Equal t = refl
both Greater t = refl

pub same_line : (a b s n : ℕ) → is_eq (ordering_then (nat_cmp a s) (nat_cmp b n)) ≡ ((s == a) && (n == b))
same_line a b s n =
    both (nat_cmp a s) (nat_cmp b n)
    ∙ (λ i. sym (unsigned_ties a s) i && sym (unsigned_ties b n) i)
    ∙ (λ i. nat_eq_equiv.symm a s i && nat_eq_equiv.symm b n i)

pub same_name : (key q : List ℕ) → is_eq (text_cmp key q) ≡ text_eq q key
same_name key q = sym (text_ties key q) ∙ nat_list_eq_equiv.symm key q

pub or_other : (b : Bool) (v : ℕ) (x : Option ℕ) → unwrap_or (cond b (Some v) x) 0 ≡ cond b v (unwrap_or x 0)
or_other true v x = refl
or_other false v x = refl
