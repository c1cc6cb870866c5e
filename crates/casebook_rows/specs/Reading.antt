-- Values of fields.
use Rattle.std.specs.Prelude.{ℕ, ℤ, pos, neg_ℤ, ◌^◌, ◌==◌, ◌&&◌, Bool, not, nat_le, nat_lt}
use Rattle.std.specs.Prelude.{if◌then◌else◌}
use Rattle.std.specs.Prelude.{List, [], ◌∷◌, length, Option, Some, None, option_and_then}
use Rattle.std.specs.Result.{result_ok}
use Rattle.std.specs.Str.{is_utf8}
use Rattle.std.specs.List.{list_all, slice_split}
use Rattle.std.specs.Char.{is_digit}
use Rattle.std.specs.Str.Parse.{digits_value}
use Rattle.hex.specs.Hex.{decode_sized}
use Rattle.percent_encoding.specs.Percent.{percent_decode}
use Rattle.retro_path.specs.Ascii.{slash}
use Rattle.retro_path.specs.Name.{is_name}
use Rattle.retro_path.specs.Path.{PathValue}

-- ---- numbers

-- digits of a base, one at least
abbrev pub is_numeral : ℕ → List ℕ → Bool
is_numeral base field = not (length field == 0) && list_all (λ c. is_digit c base) field

-- a number that is below a limit
abbrev pub below : ℕ → ℕ → Option ℕ
below limit n = if nat_lt n limit then Some n else None

-- the number of so many bits that digits of a base are
unfoldable pub unsigned_of : ℕ → ℕ → List ℕ → Option ℕ
unsigned_of base bits field =
    if is_numeral base field then below (2 ^ bits) (digits_value base field) else None

-- '-'
abbrev pub minus : ℕ
minus = 45

-- the positive number of 64 bits with a sign
abbrev pub positive : ℕ → Option ℤ
positive n = if nat_lt n (2 ^ 63) then Some (pos n) else None

-- the negative number of 64 bits with a sign
abbrev pub negative : ℕ → Option ℤ
negative n = if nat_le n (2 ^ 63) then Some (neg_ℤ (pos n)) else None

-- the number of 64 bits that digits are, after a minus if it is negative
unfoldable pub signed_of : List ℕ → Option ℤ
signed_of [] = None
signed_of (c ∷ digits) =
    if c == minus then option_and_then negative (unsigned_of 10 64 digits)
    else option_and_then positive (unsigned_of 10 64 (c ∷ digits))

-- ---- texts, digests and paths

-- Each '%' with two hexadecimal digits is the byte that they say. Any other byte is itself.
abbrev pub text_of : List ℕ → List ℕ
text_of field = percent_decode field

-- the 32 bytes that 64 hexadecimal digits are
unfoldable pub digest_of : List ℕ → Option (List ℕ)
digest_of field = result_ok (decode_sized field 32)

-- the parts after the first slash of a text, if nothing is before it
abbrev pub after_slash : List (List ℕ) → Option (List (List ℕ))
after_slash ([] ∷ names) = Some names
after_slash _ = None

-- the path with these names, if they are names
abbrev pub path_named : List (List ℕ) → Option PathValue
path_named names = if list_all is_name names then Some names else None

-- the path of a text: a slash before each name, and nothing for the root
abbrev pub path_of_text : List ℕ → Option PathValue
path_of_text text =
    option_and_then path_named (after_slash (slice_split (λ b. b == slash) text))

-- the path that a field is
unfoldable pub path_of : List ℕ → Option PathValue
path_of field = if is_utf8 (text_of field) then path_of_text (text_of field) else None
