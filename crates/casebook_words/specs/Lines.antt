-- Lines of a text. A last line without a newline is a line too.
use Rattle.std.specs.Prelude.{◌≡◌, ℕ, ◌==◌, Bool, true, false, not, ◌&&◌, ◌||◌, nat_lt, IsTrue}
use Rattle.std.specs.Prelude.{List, [], ◌∷◌, ◌++◌, flat_map, length, map, if◌then◌else◌}
use Rattle.std.specs.List.{list_all}

abbrev pub newline : ℕ
newline = 10

-- a line without its newline, and whether it has one
pub record Line : Type 0 where
  pub text : List ℕ
  pub is_ended : Bool

abbrev pub line_of : List ℕ → Bool → Line
line_of text is_ended = record { text = text; is_ended = is_ended }

-- lines with one more byte at the front, which isn't a newline
abbrev pub with_byte : ℕ → List Line → List Line
with_byte b [] = line_of (b ∷ []) false ∷ []
with_byte b (line ∷ lines) = line_of (b ∷ line.text) line.is_ended ∷ lines

-- the lines of a text
unfoldable pub lines_of : List ℕ → List Line
lines_of [] = []
lines_of (b ∷ text) =
    if b == newline then line_of [] true ∷ lines_of text else with_byte b (lines_of text)

abbrev pub texts_of : List Line → List (List ℕ)
texts_of lines = map (λ line. line.text) lines

-- the lines of a text, without their newlines
abbrev pub texts_in : List ℕ → List (List ℕ)
texts_in text = texts_of (lines_of text)

-- ---- what lines are

-- a line as its text has it
abbrev pub whole_line : Line → List ℕ
whole_line line = line.text ++ (if line.is_ended then newline ∷ [] else [])

abbrev pub has_no_newline : Line → Bool
has_no_newline line = list_all (λ b. not (b == newline)) line.text

-- all lines but the last have a newline, and the last has one or isn't empty
abbrev pub are_closed : List Line → Bool
are_closed [] = true
are_closed (line ∷ []) = line.is_ended || nat_lt 0 (length line.text)
are_closed (line ∷ next ∷ lines) = line.is_ended && are_closed (next ∷ lines)

-- The lines of a text.
pub record AreLinesOf (text : List ℕ) (lines : List Line) : Type 0 where
  pub joined : flat_map whole_line lines ≡ text
  pub no_newlines : IsTrue (list_all has_no_newline lines)
  pub closed : IsTrue (are_closed lines)
