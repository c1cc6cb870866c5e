-- The bytes that definitions name.
use Rattle.std.specs.Prelude.{ℕ}

-- ' '
abbrev pub blank : ℕ
blank = 32

-- '"'
abbrev pub double_quote : ℕ
double_quote = 34

-- '$'
abbrev pub dollar : ℕ
dollar = 36

-- '''
abbrev pub single_quote : ℕ
single_quote = 39

-- '0'
abbrev pub zero_digit : ℕ
zero_digit = 48

-- '='
abbrev pub equals : ℕ
equals = 61

-- '\'
abbrev pub backslash : ℕ
backslash = 92

-- DEL
abbrev pub delete : ℕ
delete = 127
