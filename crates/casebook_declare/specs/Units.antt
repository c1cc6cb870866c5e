-- How bash prints one byte of a quoted value: as it is, or as an escape.
use Rattle.std.specs.Prelude.{ℕ, ◌+◌, ◌-◌, ◌*◌, ◌==◌, ◌&&◌, ◌||◌, Bool, false, true, not}
use Rattle.std.specs.Prelude.{nat_le, nat_lt, List, [], ◌∷◌, Option, Some, None}
use Rattle.std.specs.Prelude.{if◌then◌else◌}
use Rattle.casebook_declare.specs.Bytes.{backslash, delete, dollar, double_quote, single_quote}
use Rattle.casebook_declare.specs.Bytes.{zero_digit}
use Rattle.casebook_declare.specs.declared.quoting.Quoting.{Quoting}
use Rattle.casebook_declare.specs.declared.quoting.Quoting.TheVariants as quotings
use Rattle.casebook_declare.specs.declared.unit.Unit.{Unit}

-- A byte that can be printed as it is. The locale decides it of those outside ASCII.
abbrev pub is_plain : ℕ → Bool
is_plain b = nat_le 32 b && not (b == delete)

abbrev pub plain : ℕ → Unit
plain b = record { byte = b; width = 1; is_code = false }

-- a backslash and the byte itself
abbrev pub escaped : ℕ → Unit
escaped b = record { byte = b; width = 2; is_code = false }

-- an escape of so many bytes, for a byte that can't be printed as it is
abbrev pub coded : ℕ → ℕ → Unit
coded width b = record { byte = b; width = width; is_code = true }

-- ---- in double quotes

-- '"', '$', '\' and '`'
abbrev pub is_special : ℕ → Bool
is_special b = b == double_quote || b == dollar || b == backslash || b == 96

abbrev pub special : List ℕ → Option Unit
special [] = None
special (b ∷ rest) = if is_special b then Some (escaped b) else None

-- A backslash precedes each special byte, and no other one.
abbrev pub double_unit : List ℕ → Option Unit
double_unit [] = None
double_unit (b ∷ rest) =
    if b == backslash then special rest
    else if is_plain b && not (is_special b) then Some (plain b)
    else None

-- ---- between `$'` and `'`

-- the byte that a letter after a backslash says
unfoldable pub byte_of_letter : ℕ → Option ℕ
byte_of_letter c =
    if c == 97 then Some 7  -- a
    else if c == 98 then Some 8  -- b
    else if c == 116 then Some 9  -- t
    else if c == 110 then Some 10  -- n
    else if c == 118 then Some 11  -- v
    else if c == 102 then Some 12  -- f
    else if c == 114 then Some 13  -- r
    else if c == 69 then Some 27  -- E
    else None

-- whether a byte has such a letter
unfoldable pub has_letter : ℕ → Bool
has_letter b = (nat_le 7 b && nat_le b 13) || b == 27

-- whether a byte has an escape of three octal digits: NUL is in no value
unfoldable pub has_octal : ℕ → Bool
has_octal b = not (b == 0) && not (has_letter b) && (nat_lt b 32 || nat_le delete b)

abbrev pub is_octal_digit : ℕ → Bool
is_octal_digit c = nat_le zero_digit c && nat_lt c (zero_digit + 8)

-- the byte that three octal digits are, if it has such an escape
unfoldable pub octal : List ℕ → Option ℕ
octal (x ∷ y ∷ z ∷ rest) =
    let b = 64 * (x - zero_digit) + 8 * (y - zero_digit) + (z - zero_digit) in
    if is_octal_digit x && is_octal_digit y && is_octal_digit z && nat_lt b 256 && has_octal b
    then Some b
    else None
octal _ = None

abbrev pub code_of : Option ℕ → Option ℕ → Option Unit
code_of (Some b) digits = Some (coded 2 b)
code_of None (Some b) = Some (coded 4 b)
code_of None None = None

-- what a backslash and the text after it begin with
abbrev pub escape_of : List ℕ → Option Unit
escape_of [] = None
escape_of (c ∷ rest) =
    if c == backslash || c == single_quote then Some (escaped c)
    else code_of (byte_of_letter c) (octal (c ∷ rest))

-- A backslash precedes each backslash and quote, and begins the escape of a byte that can't be
-- printed as it is.
abbrev pub ansi_unit : List ℕ → Option Unit
ansi_unit [] = None
ansi_unit (b ∷ rest) =
    if b == backslash then escape_of rest
    else if is_plain b && not (b == single_quote) then Some (plain b)
    else None

-- the byte that a text begins with
unfoldable pub unit_of : Quoting → List ℕ → Option Unit
unit_of quotings.Double text = double_unit text
unit_of quotings.Ansi text = ansi_unit text
