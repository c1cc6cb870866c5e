-- Text that is safe to show: how `safe` shows characters, and bytes that belong to no character.
use Rattle.std.specs.Prelude.{ℕ, zero, suc, ◌/◌, ◌%◌, ◌+◌, ◌-◌, ◌*◌, ◌==◌, Bool, true, false, not}
use Rattle.std.specs.Prelude.{◌&&◌, ◌||◌, nat_lt, nat_le}
use Rattle.std.specs.Prelude.{if◌then◌else◌, List, [], ◌∷◌, ◌++◌, map, take, drop, flat_map, codes}
use Rattle.std.specs.Prelude.{encode_utf8, Option, Some, None}
use Rattle.bstr.specs.Utf8.{Decoded, pieces}
use Rattle.ucd_category.specs.GeneralCategory.{general_category}
use Rattle.ucd_category.specs.GeneralCategoryGroup.{in_group}
use Rattle.ucd_category.specs.declared.GeneralCategory.{GeneralCategory}
use Rattle.ucd_category.specs.declared.GeneralCategoryGroup.TheVariants.{Other, Separator, Mark}
use Rattle.ucd_derived.specs.Binary.{is_default_ignorable_code_point}
use Rattle.casebook_text.specs.declared.safe_text.Breaks.{Breaks}
use Rattle.casebook_text.specs.declared.safe_text.Breaks.TheVariants.{Keep, Show, Words}

-- ---- what bytes read as

-- a character, by its code, or a byte that belongs to no character
pub data Part : Type 0 where
  character : ℕ → Part
  stray : ℕ → Part

-- the parts that a piece is: its character, or each of its bytes
abbrev pub parts_in : Option ℕ → List ℕ → List Part
parts_in (Some c) bytes = character c ∷ []
parts_in None bytes = map stray bytes

abbrev pub parts_by : List Decoded → List ℕ → List Part
parts_by [] bytes = []
parts_by (p ∷ ps) bytes = parts_in p.char (take p.size bytes) ++ parts_by ps (drop p.size bytes)

-- the parts of bytes, as they read in UTF-8 (Unicode Standard, table 3-7)
unfoldable pub parts_of : List ℕ → List Part
parts_of bytes = parts_by (pieces bytes) bytes

-- ---- which characters are shown as themselves

abbrev pub newline : ℕ
newline = 10

abbrev pub tab : ℕ
tab = 9

-- the brackets ⟨ and ⟩, U+27E8 and U+27E9
abbrev pub left_bracket : ℕ
left_bracket = 0x27E8

abbrev pub right_bracket : ℕ
right_bracket = 0x27E9

abbrev pub space : ℕ
space = 32

abbrev pub is_break : ℕ → Bool
is_break c = c == newline || c == tab

abbrev pub is_bracket : ℕ → Bool
is_bracket c = c == left_bracket || c == right_bracket

abbrev pub keeps_breaks : Breaks → Bool
keeps_breaks Keep = true
keeps_breaks Show = false
keeps_breaks Words = false

abbrev pub keeps_spaces : Breaks → Bool
keeps_spaces Keep = true
keeps_spaces Show = true
keeps_spaces Words = false

-- a category of characters that can't be seen, or that change how others are shown
abbrev pub is_hidden : GeneralCategory → Bool
is_hidden category = in_group Other category || in_group Separator category

-- the pattern of Braille without a dot, U+2800
abbrev pub blank_pattern : ℕ
blank_pattern = 0x2800

-- a character that nothing, or a blank, is shown for, whatever its category
abbrev pub is_invisible : ℕ → Bool
is_invisible c = is_default_ignorable_code_point c || c == blank_pattern

-- a space, or a character that can be seen
unfoldable pub is_harmless : ℕ → Bool
is_harmless c = c == space || not (is_invisible c || is_hidden (general_category c))

-- a character by which a word could be taken for two, or for another one: a space, and a mark,
-- which combines with the character before it
unfoldable pub blurs_words : ℕ → Bool
blurs_words c = c == space || in_group Mark (general_category c)

unfoldable pub is_shown : Breaks → ℕ → Bool
is_shown breaks c =
    if is_bracket c then false
    else if is_break c then keeps_breaks breaks
    else is_harmless c && (keeps_spaces breaks || not (blurs_words c))

-- ---- codes

-- the upper-case hexadecimal digit of a number under 16
abbrev pub hex_digit : ℕ → ℕ
hex_digit n = if nat_lt n 10 then 48 + n else 55 + n

-- the last digits of a number, this many
unfoldable pub hex_digits : ℕ → ℕ → List ℕ
hex_digits zero n = []
hex_digits (suc k) n = hex_digits k (n / 16) ++ hex_digit (n % 16) ∷ []

-- a code has four digits, or as many as it takes
abbrev pub code_width : ℕ → ℕ
code_width c = if nat_lt c 0x1_0000 then 4 else if nat_lt c 0x10_0000 then 5 else 6

abbrev pub in_brackets : List ℕ → List ℕ
in_brackets inner = left_bracket ∷ (inner ++ right_bracket ∷ [])

-- ---- what is shown

-- the characters that show a part
unfoldable pub shown : Breaks → Part → List ℕ
shown breaks (character c) =
    if is_shown breaks c then c ∷ [] else in_brackets (codes "U+" ++ hex_digits (code_width c) c)
shown breaks (stray b) = in_brackets (hex_digits 2 b)

-- the characters that show bytes
abbrev pub safe_text : Breaks → List ℕ → List ℕ
safe_text breaks bytes = flat_map (shown breaks) (parts_of bytes)

-- ---- what holds of each text that is shown

-- a character that may be shown: a harmless one, and a newline or a tab where they are kept
abbrev pub is_safe : Breaks → ℕ → Bool
is_safe breaks c = is_harmless c || (is_break c && keeps_breaks breaks)

-- a byte that is no control code of ASCII, or a newline or a tab where they are kept
abbrev pub is_safe_byte : Breaks → ℕ → Bool
is_safe_byte breaks b = (nat_le 32 b && not (b == 127)) || (is_break b && keeps_breaks breaks)

-- a printable character of ASCII, the space included
abbrev pub is_printable : ℕ → Bool
is_printable b = nat_le 32 b && nat_lt b 127

-- a printable character of ASCII that is kept as it is
abbrev pub is_plain : Breaks → ℕ → Bool
is_plain breaks b = is_printable b && (not (b == space) || keeps_spaces breaks)

-- ---- what a shown text stands for

-- what is being read: a character, the start of a code, the code of a character or that of a byte,
-- with the value of the digits so far
pub data Reading : Type 0 where
  outside : Reading
  inside : Reading
  of_character : ℕ → Reading
  of_byte : ℕ → Reading

-- 'U' and '+', which begin the code of a character
abbrev pub letter_u : ℕ
letter_u = 85

abbrev pub plus_sign : ℕ
plus_sign = 43

-- the value of a hexadecimal digit
abbrev pub digit_of : ℕ → ℕ
digit_of c = if nat_lt c 58 then c - 48 else c - 55

-- what is read after a character
abbrev pub next_reading : Reading → ℕ → Reading
next_reading outside c = if c == left_bracket then inside else outside
next_reading inside c = if c == letter_u then of_character 0 else of_byte (digit_of c)
next_reading (of_character n) c =
    if c == right_bracket then outside
    else if c == plus_sign then of_character n
    else of_character (n * 16 + digit_of c)
next_reading (of_byte n) c = if c == right_bracket then outside else of_byte (n * 16 + digit_of c)

-- the bytes that a character ends: its own, or those of the code that it closes
abbrev pub bytes_read : Reading → ℕ → List ℕ
bytes_read outside c = if c == left_bracket then [] else encode_utf8 c
bytes_read inside c = []
bytes_read (of_character n) c = if c == right_bracket then encode_utf8 n else []
bytes_read (of_byte n) c = if c == right_bracket then n ∷ [] else []

unfoldable pub original_from : Reading → List ℕ → List ℕ
original_from reading [] = []
original_from reading (c ∷ cs) = bytes_read reading c ++ original_from (next_reading reading c) cs

-- the bytes that characters stand for
abbrev pub original : List ℕ → List ℕ
original = original_from outside
