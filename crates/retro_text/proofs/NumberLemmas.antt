-- What `parse` gives for one to ten digits, and texts that are no numbers.
use Rattle.std.proofs.Common.{◌≡◌, ◌≤◌, ◌^◌, ℕ, zero, suc, Bool, true, false, ◌&&◌, cond}
use Rattle.std.proofs.Common.{List, [], ◌∷◌, length, nat_lt, Some, None, Result, Ok, Err, refl, ap, arith}
use Rattle.std.specs.Prelude.{nat_le}
use Rattle.std.specs.Result.{OkIff, result_ok}
use Rattle.std.specs.Char.{is_ascii_digit}
use Rattle.std.specs.Str.{IsUtf8, IsAscii, all_ascii_digits}
use Rattle.std.specs.Str.Parse.{digits_value, ParsesUnsigned}
use Rattle.std.proofs.lemmas.Bool.{ltb-true, leb-true, le-leb, lt-ltb, and_parts}
use Rattle.std.proofs.lemmas.Bool.{and_left, and_right, cond-false}
use Rattle.std.proofs.lemmas.Str.{IsUtf8-from_ascii}
use Rattle.std.proofs.lemmas.Str.Parse.{IsNumeralModel, numerals_by_value, parse_digits}
use Rattle.std.proofs.lemmas.Str.Parse.{tells_all_ascii_digits}
use Rattle.retro_text.specs.Numbers.{number_in}

own : IsNumeralModel (λ ds. all_ascii_digits ds ≡ true) (digits_value 10)
own = numerals_by_value _ tells_all_ascii_digits

-- the test, by what it holds
by_tests : {E : Type 0} (a b : Bool) (v : ℕ) (r : Result ℕ E) (P : Type 0) → OkIff r P v
    → (P → (a ≡ true) × (b ≡ true)) → (a ≡ true → b ≡ true → P)
    → result_ok r ≡ cond (a && (true && (true && b))) (Some v) None
by_tests true true v (Ok x) P h to from = ap Some h.1
by_tests true true v (Err e) P h to from = absurd (h (from refl refl))
by_tests true false v (Ok x) P h to from = let bad = (to h.0).1 in absurd (cc)
by_tests true false v (Err e) P h to from = refl
by_tests false b v (Ok x) P h to from = let bad = (to h.0).0 in absurd (cc)
by_tests false b v (Err e) P h to from = refl

pub parsed : {E : Type 0} (bs : List ℕ) (r : Result ℕ E) → ParsesUnsigned 32 10 bs r
    → all_ascii_digits bs ≡ true → length bs ≤ 10 → result_ok r ≡ number_in bs
unfolding number_in
parsed bs r h digits short =
    rw (le-leb (length bs) 10 short, digits)
    (by_tests (nat_lt 0 (length bs)) (nat_lt (digits_value 10 bs) (2 ^ 32)) (digits_value 10 bs) r _
    (parse_digits own 32 bs r h digits)
    (λ p. (lt-ltb 0 (length bs) p.0, lt-ltb (digits_value 10 bs) (2 ^ 32) p.1))
    (λ a b. (ltb-true 0 (length bs) a, ltb-true (digits_value 10 bs) (2 ^ 32) b)))

-- ---- texts that are no numbers

digits_are_ascii : (text : List ℕ) → all_ascii_digits text ≡ true → IsAscii text
digits_are_ascii [] h i = omega arith
digits_are_ascii (c ∷ cs) h zero =
    let bounds = and_parts (nat_le 48 c) (nat_le c 57) (and_parts (is_ascii_digit c) _ h).0 in
    let high = leb-true c 57 bounds.1 in
    omega arith
digits_are_ascii (c ∷ cs) h (suc i) = digits_are_ascii cs (and_parts (is_ascii_digit c) _ h).1 i

other_byte : (text : List ℕ) → all_ascii_digits text ≡ false → number_in text ≡ None
unfolding number_in
other_byte text h =
    cond-false _ (Some (digits_value 10 text)) None
    (and_right (nat_lt 0 (length text)) _
    (and_right (nat_le (length text) 10) _ (and_left (all_ascii_digits text) _ h)))

pub not_utf8 : (text : List ℕ) → (IsUtf8 text → ⊥) → number_in text ≡ None
not_utf8 text other = by_test (all_ascii_digits text) refl
  where
    by_test : (b : Bool) → all_ascii_digits text ≡ b → number_in text ≡ None
    by_test true h = absurd (other (IsUtf8-from_ascii text (digits_are_ascii text h)))
    by_test false h = other_byte text h
