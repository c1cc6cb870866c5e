-- The bytes that definitions name, beside those of the crates of paths and texts.
use Rattle.std.specs.Prelude.{ℕ}

-- '#'
abbrev pub hash : ℕ
hash = 35

-- '0'
abbrev pub zero_digit : ℕ
zero_digit = 48

-- '='
abbrev pub equals : ℕ
equals = 61

-- a backslash
abbrev pub backslash : ℕ
backslash = 92

-- the letters after a backslash
abbrev pub letter_n : ℕ
letter_n = 110

abbrev pub letter_r : ℕ
letter_r = 114

abbrev pub letter_t : ℕ
letter_t = 116
