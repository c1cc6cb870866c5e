-- The bytes that definitions name, beside those of the crate of paths.
use Rattle.std.specs.Prelude.{ℕ, List, slice_index}

-- a tab
abbrev pub tab : ℕ
tab = 9

-- a space
abbrev pub space : ℕ
space = 32

-- ','
abbrev pub comma : ℕ
comma = 44

-- '-'
abbrev pub dash : ℕ
dash = 45

-- the letter of a text of one letter
abbrev pub letter : List ℕ → ℕ
letter text = slice_index text 0
