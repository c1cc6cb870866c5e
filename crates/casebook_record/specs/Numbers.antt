-- Numbers in fields.
use Rattle.std.specs.Prelude.{ℕ, ◌+◌, ◌-◌, ◌*◌, ◌^◌, ◌==◌, ◌&&◌, ◌||◌, Bool, false, nat_le, nat_lt}
use Rattle.std.specs.Prelude.{List, [], ◌∷◌, length, Option, Some, None, option_and_then}
use Rattle.std.specs.Prelude.{if◌then◌else◌}

-- '0'
abbrev pub zero_digit : ℕ
zero_digit = 48

-- the value of a digit of a base
abbrev pub digit_of : ℕ → ℕ → Option ℕ
digit_of base c =
    if nat_le zero_digit c && nat_lt c (zero_digit + base) then Some (c - zero_digit) else None

-- the number that digits of a base continue, or None if one of them isn't a digit
abbrev pub digits_value : ℕ → ℕ → List ℕ → Option ℕ
digits_value base n [] = Some n
digits_value base n (c ∷ cs) =
    option_and_then (λ digit. digits_value base (base * n + digit) cs) (digit_of base c)

-- ---- decimal numbers

-- two digits or more, of which the first is a zero
abbrev pub has_leading_zero : List ℕ → Bool
has_leading_zero (c ∷ d ∷ rest) = c == zero_digit
has_leading_zero _ = false

-- the number of 1 to 18 decimal digits, without leading zeros
unfoldable pub decimal_of : List ℕ → Option ℕ
decimal_of field =
    if length field == 0 || nat_lt 18 (length field) || has_leading_zero field then None
    else digits_value 10 0 field

-- a number that is below a limit
abbrev pub below : ℕ → ℕ → Option ℕ
below limit n = if nat_lt n limit then Some n else None

-- a decimal number of 32 bits
unfoldable pub number_of : List ℕ → Option ℕ
number_of field = option_and_then (below (2 ^ 32)) (decimal_of field)

-- a number that isn't 0
abbrev pub from_one : ℕ → Option ℕ
from_one n = if n == 0 then None else Some n

-- the number of a line: a decimal number of 32 bits, from 1
unfoldable pub line_number_of : List ℕ → Option ℕ
line_number_of field = option_and_then from_one (number_of field)

-- a status: a decimal number from 0 to 255
unfoldable pub status_of : List ℕ → Option ℕ
status_of field = option_and_then (below 256) (decimal_of field)

-- ---- umasks

-- the umask of four octal digits
unfoldable pub umask_of : List ℕ → Option ℕ
umask_of field = if length field == 4 then digits_value 8 0 field else None
