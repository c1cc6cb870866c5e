-- Tables as rows, and rows as words.
use Rattle.std.specs.Prelude.{ℕ, ◌==◌, ◌||◌, Bool, not, List, length, filter}
use Rattle.std.specs.List.{slice_split}
use Rattle.retro_path.specs.Ascii.{newline}

-- ' '
abbrev pub space : ℕ
space = 32

-- '\t'
abbrev pub tab : ℕ
tab = 9

-- a space or a tab
abbrev pub is_blank : ℕ → Bool
is_blank b = b == space || b == tab

-- what is before, between and after the newlines
abbrev pub rows_of : List ℕ → List (List ℕ)
rows_of table = slice_split (λ b. b == newline) table

-- whether a text isn't empty
abbrev pub has_bytes : List ℕ → Bool
has_bytes text = not (length text == 0)

-- what is before, between and after the blanks, but no empty text
unfoldable pub words_of : List ℕ → List (List ℕ)
words_of row = filter has_bytes (slice_split is_blank row)
