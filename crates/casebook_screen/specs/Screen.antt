-- What the lines of a terminal are made of, and what they tell.
use Rattle.std.specs.Prelude.{◌≡◌, ℕ, Bool, true, false, not, ◌&&◌, List, [], ◌∷◌, IsTrue, decimal, flat_map}
use Rattle.std.specs.Prelude.{nat_le, replicate}
use Rattle.std.specs.List.{filter, list_all}
use Rattle.casebook_text.specs.SafeLine.{line_end, text_of_lines}
use Rattle.casebook_text.specs.SafeText.{is_printable}
use Rattle.casebook_screen.specs.declared.piece.Piece.{Piece}
use Rattle.casebook_screen.specs.declared.piece.Piece.TheVariants.{End, Spaces, Words, Number, Text}

abbrev pub space : ℕ
space = 32

unfoldable pub piece_text : Piece → List ℕ
piece_text End = line_end ∷ []
piece_text (Spaces count) = replicate count space
piece_text (Words words) = words.now
piece_text (Number n) = decimal n
piece_text (Text text) = text

abbrev pub is_digit : ℕ → Bool
is_digit b = nat_le 48 b && nat_le b 57

-- words are printable, and have no digits
abbrev pub is_words : List ℕ → Bool
is_words words = list_all is_printable words && list_all (λ b. not (is_digit b)) words

-- words say no number
abbrev pub is_allowed : Piece → Bool
is_allowed (Words words) = is_words words.now
is_allowed _ = true

-- numbers and texts say something of a repair
abbrev pub is_told : Piece → Bool
is_told (Number n) = true
is_told (Text text) = true
is_told _ = false

-- what pieces tell a reader, in order
abbrev pub told : List Piece → List Piece
told pieces = filter is_told pieces

-- Lines that tell a reader this: they are the texts of some pieces that tell it, each of them allowed.
pub record IsScreen (facts : List Piece) (lines : List (List ℕ)) : Type 0 where
  pub pieces : List Piece
  pub are_lines : text_of_lines lines ≡ flat_map piece_text pieces
  pub allowed : IsTrue (list_all is_allowed pieces)
  pub tells : told pieces ≡ facts
