-- Numbers are read back from their texts.
use Rattle.std.proofs.Common.{◌≡◌, ◌≢◌, ℕ, suc, ◌^◌, ◌<◌, ◌≤◌, false, List, [], ◌∷◌, length}
use Rattle.std.proofs.Common.{get_or, Some, refl, ap, arith}
use Rattle.std.proofs.Common.{ℤ, pos, negsuc, FitsSigned, decimal, option_and_then, ◌∙◌}
use Rattle.std.specs.Fmt.{signed_decimal}
use Rattle.std.specs.Int.{w64}
use Rattle.std.specs.Str.Parse.{IsNumeral, digits_value}
use Rattle.std.proofs.Math.Nat.{pow-le-pow_right}
use Rattle.std.proofs.lemmas.Bool.{lt-ltb, le-leb}
use Rattle.std.proofs.lemmas.Fmt.{digits_is_IsNumeral, decimal_is_IsNumeral}
use Rattle.std.proofs.lemmas.Str.Parse.{digit_from_value}
use Rattle.casebook_rows.specs.Reading.{negative, positive, signed_of, unsigned_of}
use Rattle.casebook_rows.specs.Written.{octal}
use Rattle.casebook_rows.proofs.Numerals.{is_numeral-decides}
use Rattle.casebook_rows.proofs.Signed.{signed_plain}

-- a numeral is read as its value, if that has so many bits
numeral_again : (base bits n : ℕ) (ds : List ℕ) → IsNumeral base ds × (digits_value base ds ≡ n)
    → n < 2 ^ bits → unsigned_of base bits ds ≡ Some n
unfolding unsigned_of
numeral_again base bits n ds h small =
    rw ((is_numeral-decides base ds).1 h.0, h.1, lt-ltb n (2 ^ bits) small) refl

pub number_again : (bits n : ℕ) → bits ≤ 64 → n < 2 ^ bits
    → unsigned_of 10 bits (decimal n) ≡ Some n
number_again bits n few small =
    let top : 2 ^ bits ≤ 2 ^ 64 = pow-le-pow_right {n = 2} (omega arith) {i = bits} {j = 64} few in
    numeral_again 10 bits n (decimal n) (decimal_is_IsNumeral n (omega (arith, small, top))) small

pub octal_again : (n : ℕ) → n < 2 ^ 32 → unsigned_of 8 32 (octal n) ≡ Some n
octal_again n small =
    numeral_again 8 32 n (octal n)
    (digits_is_IsNumeral 8 false (omega arith) (omega arith) n (omega arith)) small

-- a numeral begins with a digit
no_minus : (ds : List ℕ) → IsNumeral 10 ds → 1 ≤ length ds → get_or ds 0 0 ≢ 45
no_minus [] h some e = absurd (omega arith)
no_minus (c ∷ ds) h some e =
    let digit = digit_from_value c h.1.0 in
    omega (arith, digit.0, e)

pub signed_again : (z : ℤ) → FitsSigned w64 z → signed_of (signed_decimal z) ≡ Some z
unfolding signed_of
signed_again (pos n) fits =
    let small : n < 2 ^ 63 = fits.sfits in
    signed_plain (decimal n)
    (no_minus (decimal n) (decimal_is_IsNumeral n (omega (arith, small))).0)
    ∙ ap (option_and_then positive) (number_again 64 n (omega arith) (omega (arith, small)))
    ∙ rw (lt-ltb n (2 ^ 63) small) refl
signed_again (negsuc n) fits =
    let small : suc n ≤ 2 ^ 63 = fits.sfits in
    ap (option_and_then negative) (number_again 64 (suc n) (omega arith) (omega (arith, small)))
    ∙ rw (le-leb (suc n) (2 ^ 63) small) refl
