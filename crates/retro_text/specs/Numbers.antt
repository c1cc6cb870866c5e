-- Decimal numbers.
use Rattle.std.specs.Prelude.{ℕ, ◌^◌, List, length, Option, Some, None, if◌then◌else◌, nat_lt}
use Rattle.std.specs.Prelude.{nat_le, ◌&&◌}
use Rattle.std.specs.Str.{all_ascii_digits}
use Rattle.std.specs.Str.Parse.{digits_value}

-- the greatest number of digits
abbrev pub most_digits : ℕ
most_digits = 10

-- a decimal number of one to ten digits that fits in 32 bits
unfoldable pub number_in : List ℕ → Option ℕ
number_in text =
    if nat_lt 0 (length text)
    && (nat_le (length text) most_digits
    && (all_ascii_digits text && nat_lt (digits_value 10 text) (2 ^ 32)))
    then Some (digits_value 10 text) else None
