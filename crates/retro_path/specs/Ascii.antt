-- The bytes that definitions name.
use Rattle.std.specs.Prelude.{ℕ}

-- '/'
abbrev pub slash : ℕ
slash = 47

-- '_'
abbrev pub underscore : ℕ
underscore = 95

-- NUL
abbrev pub nul : ℕ
nul = 0

-- a newline
abbrev pub newline : ℕ
newline = 10

-- ':'
abbrev pub colon : ℕ
colon = 58
