-- Escapes in the fields of a mount (fstab(5)): a backslash and three octal digits are a byte.
use Rattle.std.specs.Prelude.{ℕ, ◌+◌, ◌-◌, ◌*◌, ◌==◌, ◌&&◌, Bool, nat_le, List, ◌∷◌}
use Rattle.std.specs.Prelude.{Option, Some, None, if◌then◌else◌}

-- '\'
abbrev pub backslash : ℕ
backslash = 92

-- '0'
abbrev pub zero_digit : ℕ
zero_digit = 48

-- '3'
abbrev pub three_digit : ℕ
three_digit = 51

-- '7'
abbrev pub seven_digit : ℕ
seven_digit = 55

-- a digit, up to another one
abbrev pub is_digit_to : ℕ → ℕ → Bool
is_digit_to last b = nat_le zero_digit b && nat_le b last

-- whether three bytes are the octal digits of a byte
abbrev pub is_octal : ℕ → ℕ → ℕ → Bool
is_octal a b c = is_digit_to three_digit a && is_digit_to seven_digit b && is_digit_to seven_digit c

-- the byte with these octal digits
abbrev pub octal : ℕ → ℕ → ℕ → ℕ
octal a b c = (a - zero_digit) * 64 + (b - zero_digit) * 8 + (c - zero_digit)

-- whether four bytes are an escape
abbrev pub is_escape : ℕ → ℕ → ℕ → ℕ → Bool
is_escape s a b c = s == backslash && is_octal a b c

-- the byte that an escape at the front of a text stands for, and what follows the escape
abbrev pub escape_of : List ℕ → Option (ℕ × List ℕ)
escape_of (s ∷ a ∷ b ∷ c ∷ rest) = if is_escape s a b c then Some (octal a b c, rest) else None
escape_of _ = None

-- the text that a field is: each escape is the byte that it stands for, and another byte is itself
unfoldable pub unescaped : List ℕ → List ℕ
unescaped (s ∷ a ∷ b ∷ c ∷ rest) =
    if is_escape s a b c then octal a b c ∷ unescaped rest else s ∷ unescaped (a ∷ b ∷ c ∷ rest)
unescaped short = short
