-- Texts of values have no tab and no newline.
use Rattle.std.proofs.Common.{◌≡◌, ℕ, zero, suc, ◌^◌, ◌/◌, ◌%◌, ◌<◌, ◌≤◌, ◌==◌, ◌&&◌, true, false}
use Rattle.std.proofs.Common.{not, nat_le, List, [], ◌∷◌, All, get_or, arith, refl}
use Rattle.std.proofs.Common.{ℤ, pos, negsuc, FitsSigned, decimal}
use Rattle.std.specs.List.{AllPass}
use Rattle.std.specs.Fmt.{signed_decimal}
use Rattle.std.specs.Int.{w64}
use Rattle.std.specs.Str.Parse.{AllDigits}
use Rattle.std.proofs.lemmas.Bool.{and_parts, cond_both, leb-true}
use Rattle.std.proofs.lemmas.Fmt.{digits_is_IsNumeral, decimal_is_IsNumeral}
use Rattle.std.proofs.lemmas.List.Elements.{All-append, All-cons, All-head, All-nil, All-tail}
use Rattle.std.proofs.lemmas.List.Elements.{All-weaker}
use Rattle.std.proofs.lemmas.List.Sums.{AllPass-from_list_all}
use Rattle.std.proofs.lemmas.Str.Parse.{digit_from_value}
use Rattle.hex.specs.Hex.{encode_lower, encode_with, lower_digits}
use Rattle.percent_encoding.specs.Percent.{percent_encode_byte}
use Rattle.percent_encoding.proofs.PercentLemmas.{All-percent_encode_byte, IsEscapeByte}
use Rattle.retro_path.specs.Path.{PathValue}
use Rattle.retro_path.specs.Slashed.{slashed}
use Rattle.casebook_rows.specs.Rows.{IsInRow}
use Rattle.casebook_rows.specs.Written.{escape, escaped, is_kept, octal, path_field}

-- a tab and a newline are below a blank
printed : (b : ℕ) → 32 ≤ b → IsInRow b
printed b h = (λ e. omega (arith, e), λ e. omega (arith, e))

-- ---- numbers

digits_in_row : (base : ℕ) (ds : List ℕ) → base ≤ 10 → AllDigits base ds → All IsInRow ds
digits_in_row base [] small h = All-nil IsInRow
digits_in_row base (c ∷ ds) small h =
    let digit = digit_from_value c (omega (arith, h.0)) in
    All-cons IsInRow c ds (printed c (omega (arith, digit.0))) (digits_in_row base ds small h.1)

pub number_in_row : (n : ℕ) → n < 2 ^ 64 → All IsInRow (decimal n)
number_in_row n small =
    digits_in_row 10 (decimal n) (omega arith) (decimal_is_IsNumeral n small).0.1

pub octal_in_row : (n : ℕ) → n < 2 ^ 32 → All IsInRow (octal n)
octal_in_row n small =
    digits_in_row 8 (octal n) (omega arith)
    (digits_is_IsNumeral 8 false (omega arith) (omega arith) n (omega arith)).0.1

pub signed_in_row : (z : ℤ) → FitsSigned w64 z → All IsInRow (signed_decimal z)
signed_in_row (pos n) fits =
    let small : n < 2 ^ 63 = fits.sfits in
    number_in_row n (omega (arith, small))
signed_in_row (negsuc n) fits =
    let small : suc n ≤ 2 ^ 63 = fits.sfits in
    All-cons IsInRow 45 (decimal (suc n)) (printed 45 (omega arith))
    (number_in_row (suc n) (omega (arith, small)))

-- ---- texts

escape_byte_in_row : (b : ℕ) → IsEscapeByte b → IsInRow b
escape_byte_in_row b h = printed b (grind (arith, h))

kept_in_row : (b : ℕ) → is_kept b ≡ true → IsInRow b
kept_in_row b h =
    let range = (and_parts (nat_le 32 b && nat_le b 126) (not (b == 37)) h).0 in
    printed b (leb-true 32 b (and_parts (nat_le 32 b) (nat_le b 126) range).0)

escape_in_row : (b : ℕ) → All IsInRow (escape b)
escape_in_row b =
    cond_both (is_kept b) (b ∷ []) (percent_encode_byte b) (All IsInRow)
    (λ e. All-cons IsInRow b [] (kept_in_row b e) (All-nil IsInRow))
    (λ e. All-weaker IsEscapeByte IsInRow escape_byte_in_row
    (percent_encode_byte b) (All-percent_encode_byte b))

pub text_in_row : (text : List ℕ) → All IsInRow (escaped text)
text_in_row [] = All-nil IsInRow
text_in_row (b ∷ text) =
    All-append IsInRow (escape b) (escaped text) (escape_in_row b) (text_in_row text)

pub path_in_row : (path : PathValue) → All IsInRow (path_field path)
path_in_row path = text_in_row (slashed path)

-- ---- digests

-- what is read in a table of printed characters, or 0 past its end
read_in_row : (table : List ℕ) → AllPass (nat_le 32) table → (d : ℕ) → IsInRow (get_or table d 0)
read_in_row [] h d = (λ e. omega (arith, e), λ e. omega (arith, e))
read_in_row (c ∷ table) h zero =
    printed c (leb-true 32 c (All-head (λ b. nat_le 32 b ≡ true) c table h))
read_in_row (c ∷ table) h (suc d) =
    read_in_row table (All-tail (λ b. nat_le 32 b ≡ true) c table h) d

hex_in_row : (d : ℕ) → IsInRow (get_or lower_digits d 0)
hex_in_row = read_in_row lower_digits (AllPass-from_list_all (nat_le 32) lower_digits refl)

pub digest_in_row : (digest : List ℕ) → All IsInRow (encode_lower digest)
unfolding encode_with
digest_in_row [] = All-nil IsInRow
digest_in_row (b ∷ digest) =
    All-cons IsInRow (get_or lower_digits (b / 16) 0)
    (get_or lower_digits (b % 16) 0 ∷ encode_lower digest)
    (hex_in_row (b / 16))
    (All-cons IsInRow (get_or lower_digits (b % 16) 0) (encode_lower digest)
    (hex_in_row (b % 16)) (digest_in_row digest))
