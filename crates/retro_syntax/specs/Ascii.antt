-- The codes of the characters that the grammar names.
use Rattle.std.specs.Prelude.{ℕ, Bool, false, ◌||◌, ◌==◌, List, [], ◌∷◌}

abbrev pub nul : ℕ
nul = 0

abbrev pub tab : ℕ
tab = 9

abbrev pub newline : ℕ
newline = 10

abbrev pub space : ℕ
space = 32

abbrev pub double_quote : ℕ
double_quote = 34

abbrev pub hash : ℕ
hash = 35

abbrev pub dollar : ℕ
dollar = 36

abbrev pub ampersand : ℕ
ampersand = 38

abbrev pub single_quote : ℕ
single_quote = 39

abbrev pub left_parenthesis : ℕ
left_parenthesis = 40

abbrev pub right_parenthesis : ℕ
right_parenthesis = 41

abbrev pub slash : ℕ
slash = 47

abbrev pub colon : ℕ
colon = 58

abbrev pub semicolon : ℕ
semicolon = 59

abbrev pub less : ℕ
less = 60

abbrev pub equals : ℕ
equals = 61

abbrev pub greater : ℕ
greater = 62

abbrev pub question : ℕ
question = 63

abbrev pub backslash : ℕ
backslash = 92

abbrev pub backquote : ℕ
backquote = 96

abbrev pub left_brace : ℕ
left_brace = 123

abbrev pub bar : ℕ
bar = 124

abbrev pub right_brace : ℕ
right_brace = 125

abbrev pub tilde : ℕ
tilde = 126

-- whether it is one of them
abbrev pub is_among : List ℕ → ℕ → Bool
is_among [] c = false
is_among (d ∷ ds) c = c == d || is_among ds c
