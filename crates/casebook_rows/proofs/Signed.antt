-- What the reader of numbers with a sign answers.
use Rattle.std.proofs.Common.{◌≡◌, ◌≢◌, ℕ, zero, suc, ◌^◌, ◌≤◌, nat_le, nat_lt, List, [], ◌∷◌}
use Rattle.std.proofs.Common.{length, get_or, take, drop, ◌-◌, sub-one}
use Rattle.std.proofs.Common.{Option, Result, SomeIff, OkIff, Decides, FitsSigned}
use Rattle.std.proofs.Common.{option_and_then, refl, sym, ap, arith}
use Rattle.std.proofs.Common.{ℤ, pos, neg_ℤ, ◌-ℤ◌}
use Rattle.std.specs.Int.{w64}
use Rattle.std.specs.Result.{result_ok}
use Rattle.std.proofs.Math.Seq.{take-length}
use Rattle.std.proofs.lemmas.Int.{ints}
use Rattle.std.proofs.lemmas.Bool.{eq-eqb, ne_eqb, le-leb, leb-true, lt-ltb, ltb-true}
use Rattle.casebook_rows.specs.Reading.{negative, positive, signed_of, unsigned_of}
use Rattle.casebook_rows.proofs.Conditions.{ok_if, some_if}
use Rattle.casebook_rows.proofs.Numbers.{not_numeral}

-- after a minus, the number of the digits is negative
pub signed_minus : (field : List ℕ) → 1 ≤ length field → get_or field 0 0 ≡ 45
    → signed_of field ≡ option_and_then negative
    (unsigned_of 10 64 (take (length field - 1) (drop 1 field)))
unfolding signed_of
signed_minus [] some h = absurd (omega arith)
signed_minus (c ∷ field) some h =
    let rest : take (length (c ∷ field) - 1) field ≡ field = rw (sub-one, take-length field) refl in
    rw (eq-eqb c 45 h, rest) refl

-- without one, it is positive
pub signed_plain : (field : List ℕ) → (1 ≤ length field → get_or field 0 0 ≢ 45)
    → signed_of field ≡ option_and_then positive (unsigned_of 10 64 field)
unfolding signed_of
signed_plain [] h = ap (option_and_then positive) (sym (not_numeral 10 64 [] refl))
signed_plain (c ∷ field) h = rw (ne_eqb c 45 (h (omega arith))) refl

-- ---- numbers below 2^63 are in range, and -2^63 too

in_range : (n : ℕ) → Decides (nat_lt n (2 ^ 63)) (FitsSigned w64 (pos n))
in_range n = (λ t. record { sfits = ltb-true n (2 ^ 63) t }, λ fits. lt-ltb n (2 ^ 63) fits.sfits)

below_zero : (n : ℕ) → Decides (nat_le n (2 ^ 63)) (FitsSigned w64 (neg_ℤ (pos n)))
below_zero zero = (λ t. record { sfits = omega arith }, λ fits. refl)
below_zero (suc n) = (
  λ t. record { sfits = leb-true (suc n) (2 ^ 63) t },
  λ fits. le-leb (suc n) (2 ^ 63) fits.sfits,
)

negated : (n : ℕ) → pos 0 -ℤ pos n ≡ neg_ℤ (pos n)
negated n = omega (arith, ints)

-- what makes a positive number answers it, if it is in range
pub made_positive : {E : Type 0} (n : ℕ) (r : Result ℤ E) → OkIff r (FitsSigned w64 (pos n)) (pos n)
    → result_ok r ≡ positive n
made_positive n r h = ok_if r (FitsSigned w64 (pos n)) (pos n) (nat_lt n (2 ^ 63)) h (in_range n)

-- what subtracts from 0 answers the negative number, if it is in range
pub made_negative : (n : ℕ) (o : Option ℤ)
    → SomeIff o (FitsSigned w64 (pos 0 -ℤ pos n)) (pos 0 -ℤ pos n) → o ≡ negative n
made_negative n o h =
    let parts = rw (negated n) at h in
    some_if o (FitsSigned w64 (neg_ℤ (pos n))) (neg_ℤ (pos n)) (nat_le n (2 ^ 63)) parts
    (below_zero n)
