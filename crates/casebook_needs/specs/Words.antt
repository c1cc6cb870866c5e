-- The words of a text, for finding the paths that it names. They are more than the words that a
-- shell reads, and know nothing of its grammar.
use Rattle.std.specs.Prelude.{ℕ, ◌==◌, ◌-◌, Bool, List, ◌∷◌, ◌++◌, codes, drop, length, take}
use Rattle.std.specs.List.{list_any, slice_split}
use Rattle.retro_path.specs.Ascii.{newline}

-- a tab
abbrev pub tab : ℕ
tab = 9

-- the bytes between words: blanks, operators of the shell, quotes, and what begins an expansion,
-- encloses braces, or is between a name and a value
abbrev pub separators : List ℕ
separators = tab ∷ newline ∷ codes " |&;<>()'\"\\`${}=,:"

abbrev pub is_separator : ℕ → Bool
is_separator b = list_any (λ c. c == b) separators

-- a single or a double quote
abbrev pub is_quote : ℕ → Bool
is_quote b = list_any (λ c. c == b) (codes "'\"")

-- parts without the first and the last one
abbrev pub inner_parts : List (List ℕ) → List (List ℕ)
inner_parts parts = take (length parts - 2) (drop 1 parts)

-- the parts between two quotes, taken as they are: so a name in quotes is a word, whatever bytes it
-- has; and so is what stands between two names in quotes
abbrev pub quoted_words : List ℕ → List (List ℕ)
quoted_words text = inner_parts (slice_split is_quote text)

-- The parts between separators, and the parts between two quotes. Some words are empty.
unfoldable pub words_of : List ℕ → List (List ℕ)
words_of text = slice_split is_separator text ++ quoted_words text
