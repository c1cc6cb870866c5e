-- Rows of fields.
use Rattle.std.specs.Prelude.{ℕ, ◌==◌, ◌≢◌, List, ◌∷◌, ◌++◌, flat_map}
use Rattle.std.specs.List.{slice_split}

-- '\t'
abbrev pub tab : ℕ
tab = 9

-- '\n'
abbrev pub newline : ℕ
newline = 10

-- neither a tab nor a newline
abbrev pub IsInRow : ℕ → Type 0
IsInRow b = (b ≢ tab) × (b ≢ newline)

-- a tab before each field
abbrev pub tabbed : List (List ℕ) → List ℕ
tabbed fields = flat_map (λ field. tab ∷ field) fields

-- a word and its fields
abbrev pub row_text : List ℕ → List (List ℕ) → List ℕ
row_text word fields = word ++ tabbed fields

-- what is before, between and after the tabs
abbrev pub fields_of : List ℕ → List (List ℕ)
fields_of row = slice_split (λ b. b == tab) row

-- what is before, between and after the newlines
abbrev pub rows_of : List ℕ → List (List ℕ)
rows_of text = slice_split (λ b. b == newline) text
