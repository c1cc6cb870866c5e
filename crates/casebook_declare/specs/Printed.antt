-- How bash prints variables that have a value and aren't arrays: `declare -FLAGS NAME=VALUE`.
use Rattle.std.specs.Prelude.{◌≡◌, ℕ, ◌+◌, ◌/◌, ◌%◌, ◌<◌, ◌==◌, ◌&&◌, ◌||◌, Bool, true, nat_le}
use Rattle.std.specs.Prelude.{nat_lt}
use Rattle.std.specs.Prelude.{All, List, [], ◌∷◌, ◌++◌, filter, flat_map, codes}
use Rattle.std.specs.Prelude.{if◌then◌else◌}
use Rattle.retro_path.specs.Ascii.{newline}
use Rattle.retro_path.specs.VarName.{is_shell_name}
use Rattle.casebook_declare.specs.Attributes.{assignment_of}
use Rattle.casebook_declare.specs.Bytes.{backslash, blank, delete, dollar, double_quote, equals}
use Rattle.casebook_declare.specs.Bytes.{single_quote, zero_digit}
use Rattle.casebook_declare.specs.declared.variable.Variable.{Variable}

-- A variable as a shell has it. A locale decides which bytes outside ASCII it can print: those of
-- a character that it has. So of each byte of the value it is said whether the locale prints it.
pub record ShellVariable : Type 0 where
  pub name : List ℕ
  pub value : List ℕ
  pub is_set : ℕ → Bool  -- whether it has the attribute of a letter
  pub is_shown : ℕ → Bool  -- whether the locale prints the byte at an index, outside ASCII

-- A value has no NUL.
pub record IsShellVariable (v : ShellVariable) : Type 0 where
  pub name : is_shell_name v.name ≡ true
  pub value : All (λ b. (0 < b) × (b < 256)) v.value

-- ---- values

-- a printable byte of ASCII, or one that the locale prints
abbrev pub is_printed : Bool → ℕ → Bool
is_printed shown b = (nat_le 32 b && nat_lt b delete) || (nat_lt delete b && shown)

-- whether all bytes are printed as they are, of which the first has this index
abbrev pub all_printed : (ℕ → Bool) → ℕ → List ℕ → Bool
all_printed is_shown k [] = true
all_printed is_shown k (b ∷ bs) = is_printed (is_shown k) b && all_printed is_shown (k + 1) bs

-- a byte in double quotes: a backslash precedes '"', '$', '\' and '`'
abbrev pub double_text : ℕ → List ℕ
double_text b =
    if b == 34 || b == 36 || b == 92 || b == 96 then backslash ∷ b ∷ [] else b ∷ []

-- the escape of a byte that isn't printed as it is: of a letter, or of three octal digits
abbrev pub code_text : ℕ → List ℕ
code_text b =
    if b == 7 then codes "\\a"
    else if b == 8 then codes "\\b"
    else if b == 9 then codes "\\t"
    else if b == 10 then codes "\\n"
    else if b == 11 then codes "\\v"
    else if b == 12 then codes "\\f"
    else if b == 13 then codes "\\r"
    else if b == 27 then codes "\\E"
    else backslash ∷ (zero_digit + b / 64) ∷ (zero_digit + b % 64 / 8) ∷ (zero_digit + b % 8) ∷ []

-- a byte between `$'` and `'`
abbrev pub ansi_text : Bool → ℕ → List ℕ
ansi_text shown b =
    if b == backslash || b == single_quote then backslash ∷ b ∷ []
    else if is_printed shown b then b ∷ []
    else code_text b

abbrev pub ansi_texts : (ℕ → Bool) → ℕ → List ℕ → List ℕ
ansi_texts is_shown k [] = []
ansi_texts is_shown k (b ∷ bs) = ansi_text (is_shown k) b ++ ansi_texts is_shown (k + 1) bs

-- A value is in double quotes if all its bytes are printed as they are.
unfoldable pub value_text : (ℕ → Bool) → List ℕ → List ℕ
value_text is_shown value =
    if all_printed is_shown 0 value
    then double_quote ∷ (flat_map double_text value ++ double_quote ∷ [])
    else dollar ∷ single_quote ∷ (ansi_texts is_shown 0 value ++ single_quote ∷ [])

-- ---- rows

-- letters, or a dash if there are none
abbrev pub or_dash : List ℕ → List ℕ
or_dash [] = codes "-"
or_dash (letter ∷ letters) = letter ∷ letters

unfoldable pub flags_text : (ℕ → Bool) → List ℕ
flags_text is_set = or_dash (filter is_set (codes "irtxclu"))

unfoldable pub row_text : ShellVariable → List ℕ
row_text v =
    codes "declare -" ++ (flags_text v.is_set ++ blank ∷
    (v.name ++ equals ∷ value_text v.is_shown v.value))

-- rows, each ended by a newline
unfoldable pub text_of : List ShellVariable → List ℕ
text_of variables = flat_map (λ v. row_text v ++ newline ∷ []) variables

-- what the text says of a variable
abbrev pub said_of : ShellVariable → Variable
said_of v = record {
  name = v.name;
  value = v.value;
  is_exported = v.is_set 120;
  assignment = assignment_of v.is_set;
}
