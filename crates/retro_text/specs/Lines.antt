-- Lines of a text (XBD 3.206). A last line without a newline is a line too.
use Rattle.std.specs.Prelude.{ℕ, ◌==◌, List, [], ◌∷◌, ◌++◌, flat_map}
use Rattle.std.specs.List.{slice_split}
use Rattle.retro_path.specs.Ascii.{newline}

-- the last piece of a text is a line if it isn't empty
abbrev pub last_line : List ℕ → List (List ℕ)
last_line [] = []
last_line (b ∷ piece) = (b ∷ piece) ∷ []

-- the lines among the pieces between newlines
abbrev pub lines_of_pieces : List (List ℕ) → List (List ℕ)
lines_of_pieces [] = []
lines_of_pieces (last ∷ []) = last_line last
lines_of_pieces (line ∷ next ∷ pieces) = line ∷ lines_of_pieces (next ∷ pieces)

unfoldable pub lines_in : List ℕ → List (List ℕ)
lines_in text = lines_of_pieces (slice_split (λ b. b == newline) text)

-- the text of lines: each with a newline
abbrev pub text_of_lines : List (List ℕ) → List ℕ
text_of_lines lines = flat_map (λ line. line ++ newline ∷ []) lines
