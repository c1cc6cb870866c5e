-- Names of files in a patch, in git's quotes if they have bytes that aren't plain. Git itself puts
-- names with spaces into no quotes, and then can't read some of them.
use Rattle.std.specs.Prelude.{ℕ, ◌+◌, ◌/◌, ◌%◌, ◌==◌, Bool, ◌||◌, List, [], ◌∷◌, ◌++◌, Option}
use Rattle.std.specs.Prelude.{Some, None}
use Rattle.std.specs.Prelude.{flat_map, if◌then◌else◌, nat_le, nat_lt}
use Rattle.std.specs.List.{list_any}

abbrev pub space : ℕ
space = 32

abbrev pub double_quote : ℕ
double_quote = 34

abbrev pub backslash : ℕ
backslash = 92

-- a byte, and the letter that stands for it after a backslash
abbrev pub Letter : Type 0
Letter = ℕ × ℕ

-- \a, \b, \t, \n, \v, \f, \r, a quote and a backslash
abbrev pub letters : List Letter
letters =
    (7, 97) ∷ (8, 98) ∷ (9, 116) ∷ (10, 110) ∷ (11, 118) ∷ (12, 102) ∷ (13, 114)
    ∷ (double_quote, double_quote) ∷ (backslash, backslash) ∷ []

abbrev pub letter_in : List Letter → ℕ → Option ℕ
letter_in [] b = None
letter_in (letter ∷ letters) b = if b == letter.0 then Some letter.1 else letter_in letters b

abbrev pub letter_of : ℕ → Option ℕ
letter_of b = letter_in letters b

-- whether a byte isn't written as it is: control codes, bytes outside ASCII, quotes, backslashes
abbrev pub is_special : ℕ → Bool
is_special b = nat_lt b 32 || nat_le 127 b || b == double_quote || b == backslash

abbrev pub digit : ℕ → ℕ
digit n = 48 + n

-- three octal digits
abbrev pub octal : ℕ → List ℕ
octal b = digit (b / 64) ∷ digit (b / 8 % 8) ∷ digit (b % 8) ∷ []

abbrev pub after_backslash : Option ℕ → ℕ → List ℕ
after_backslash None b = octal b
after_backslash (Some letter) b = letter ∷ []

abbrev pub escaped : ℕ → List ℕ
escaped b = if is_special b then backslash ∷ after_backslash (letter_of b) b else b ∷ []

-- whether a name with a byte is put into quotes
abbrev pub is_quoted : ℕ → Bool
is_quoted b = is_special b || b == space

abbrev pub quoted : List ℕ → List ℕ
quoted name =
    if list_any is_quoted name
    then double_quote ∷ flat_map escaped name ++ double_quote ∷ []
    else name
