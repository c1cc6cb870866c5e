-- Numerals: the test of them, and that they are ASCII without a plus.
use Rattle.std.proofs.Common.{◌≡◌, ℕ, ◌<◌, ◌≤◌, ◌==◌, true, not, length, List, [], ◌∷◌}
use Rattle.std.proofs.Common.{IsUtf8, Decides, arith, refl}
use Rattle.std.specs.List.{list_all}
use Rattle.std.specs.Char.{digit_value, is_digit}
use Rattle.std.specs.Str.Parse.{AllDigits, IsNumeral, without_leading_plus}
use Rattle.std.proofs.lemmas.Bool.{and_parts, and_from, lt-ltb, ltb-true}
use Rattle.std.proofs.lemmas.Bool.Decides.{nat_tests}
use Rattle.std.proofs.lemmas.Fmt.{IsAscii-from_digits}
use Rattle.std.proofs.lemmas.Str.{IsUtf8-from_ascii}
use Rattle.std.proofs.lemmas.Str.Parse.{digit_from_value, without_leading_plus_none}
use Rattle.casebook_rows.specs.Reading.{is_numeral}

digits_from_test : (base : ℕ) (ds : List ℕ) → list_all (λ c. is_digit c base) ds ≡ true
    → AllDigits base ds
digits_from_test base [] h = tt
digits_from_test base (c ∷ ds) h =
    let k = and_parts (is_digit c base) (list_all (λ d. is_digit d base) ds) h in
    (ltb-true (digit_value c) base k.0, digits_from_test base ds k.1)

test_from_digits : (base : ℕ) (ds : List ℕ) → AllDigits base ds
    → list_all (λ c. is_digit c base) ds ≡ true
test_from_digits base [] h = refl
test_from_digits base (c ∷ ds) h =
    and_from (is_digit c base) (list_all (λ d. is_digit d base) ds)
    (lt-ltb (digit_value c) base h.0) (test_from_digits base ds h.1)

some : (n : ℕ) → not (n == 0) ≡ true → 0 < n
some n h = grind (arith, nat_tests)

not_none : (n : ℕ) → 0 < n → not (n == 0) ≡ true
not_none n h = grind (arith, nat_tests)

numeral_from_test : (base : ℕ) (ds : List ℕ) → is_numeral base ds ≡ true → IsNumeral base ds
numeral_from_test base ds h =
    let k = and_parts (not (length ds == 0)) (list_all (λ d. is_digit d base) ds) h in
    (some (length ds) k.0, digits_from_test base ds k.1)

test_from_numeral : (base : ℕ) (ds : List ℕ) → IsNumeral base ds → is_numeral base ds ≡ true
test_from_numeral base ds h =
    and_from (not (length ds == 0)) (list_all (λ d. is_digit d base) ds) (not_none (length ds) h.0)
    (test_from_digits base ds h.1)

pub is_numeral-decides : (base : ℕ) (ds : List ℕ) → Decides (is_numeral base ds) (IsNumeral base ds)
is_numeral-decides base ds = (numeral_from_test base ds, test_from_numeral base ds)

decimal_digits : (base : ℕ) (ds : List ℕ) → base ≤ 10 → AllDigits base ds → AllDigits 10 ds
decimal_digits base [] small h = tt
decimal_digits base (c ∷ ds) small h = (omega (arith, h.0), decimal_digits base ds small h.1)

pub numeral_is_utf8 : (base : ℕ) (ds : List ℕ) → base ≤ 10 → IsNumeral base ds → IsUtf8 ds
numeral_is_utf8 base ds small h =
    IsUtf8-from_ascii ds (IsAscii-from_digits ds (decimal_digits base ds small h.1))

pub numeral_has_no_plus : (base : ℕ) (ds : List ℕ) → base ≤ 10 → IsNumeral base ds
    → without_leading_plus ds ≡ ds
numeral_has_no_plus base [] small h = refl
numeral_has_no_plus base (c ∷ ds) small h =
    let digit = digit_from_value c (omega (arith, h.1.0)) in
    without_leading_plus_none (c ∷ ds) (λ e. omega (arith, digit.0, e))
