-- Words that bash reads as Retro's shell does.
use Rattle.std.specs.Prelude.{ℕ, Bool, true, false, not, ◌==◌, ◌&&◌, ◌||◌, List, [], ◌∷◌, ◌++◌, Option, Some, None, codes}
use Rattle.std.specs.Prelude.{if◌then◌else◌, option_map, is_some}
use Rattle.std.specs.Char.{is_ascii_digit}
use Rattle.std.specs.List.{list_all, list_any}
use Rattle.retro_syntax.specs.Tree.{Piece, plain, quoted, parameter, quoted_parameter, Word}
use Rattle.retro_syntax.specs.Tildes.{TildePrefix, tilde_prefix}
use Rattle.casebook_usage.specs.Shape.{ShapeValue, literal, operand, phrase, loose}
use Rattle.casebook_profile.specs.Characters.{among, has_any, has_other, has_pattern, hides_tilde}
use Rattle.casebook_profile.specs.Scope.{Scope, is_known, is_plain}

-- ---- tilde prefixes (XCU 2.6.1)

-- whether a tilde prefix has a login name: bash has `~+`, `~-` and `~N` of its own
abbrev pub is_login : List ℕ → Bool
is_login [] = true
is_login (c ∷ cs) = not (among (codes "+-") c || is_ascii_digit c)

abbrev pub has_login : Option TildePrefix → Bool
has_login None = true
has_login (Some p) = is_login p.login

-- ---- words of a command, of a `for` and of a redirection

-- Whether a piece is read alike. Outside quotes bash expands patterns and braces, also patterns in
-- the value of a variable.
abbrev pub is_clear_piece : Scope → Piece → Bool
is_clear_piece scope (plain text) = not (has_pattern text) && not (hides_tilde text)
is_clear_piece scope (quoted text) = true
is_clear_piece scope (parameter p) = is_plain scope p
is_clear_piece scope (quoted_parameter p) = is_known scope p

-- whether a word is read alike
unfoldable pub is_clear : Scope → Word → Bool
is_clear scope w = list_all (is_clear_piece scope) w && has_login (tilde_prefix false w)

-- ---- assigned values, in which nothing is split and no pattern is expanded

abbrev pub is_clear_in_value : Scope → Piece → Bool
is_clear_in_value scope (plain text) = true
is_clear_in_value scope (quoted text) = true
is_clear_in_value scope (parameter p) = is_known scope p
is_clear_in_value scope (quoted_parameter p) = is_known scope p

unfoldable pub is_clear_value : Scope → Word → Bool
is_clear_value scope w = list_all (is_clear_in_value scope) w && has_login (tilde_prefix true w)

-- ---- what is known of a word before its line runs

-- the text of a piece without a parameter
abbrev pub piece_text : Piece → Option (List ℕ)
piece_text (plain text) = Some text
piece_text (quoted text) = Some text
piece_text (parameter p) = None
piece_text (quoted_parameter p) = None

abbrev pub text_before : Option (List ℕ) → Option (List ℕ) → Option (List ℕ)
text_before None rest = None
text_before (Some text) rest = option_map (λ more. text ++ more) rest

-- the texts of pieces one after another, or None if there is a parameter
abbrev pub pieces_text : List Piece → Option (List ℕ)
pieces_text [] = Some []
pieces_text (p ∷ ps) = text_before (piece_text p) (pieces_text ps)

-- Whether a piece makes its word a field: quoted text does so even if it is empty.
abbrev pub opens : Piece → Bool
opens (plain []) = false
opens (plain (c ∷ text)) = true
opens (quoted text) = true
opens (parameter p) = false
opens (quoted_parameter p) = true

-- the text that a word is in every state: no parameter, no tilde prefix, and at least one piece
-- that makes it a field
unfoldable pub literal_text : Word → Option (List ℕ)
literal_text w =
    if is_some (tilde_prefix false w) then None else if list_any opens w then pieces_text w else None

abbrev pub is_dash : ℕ → Bool
is_dash c = c == 45

-- whether a text begins with another character than a dash
abbrev pub begins_well : List ℕ → Bool
begins_well [] = false
begins_well (c ∷ text) = not (is_dash c)

-- whether a word begins with another character than a dash in every state
abbrev pub begins_operand : Scope → Word → Bool
begins_operand scope [] = false
begins_operand scope (plain text ∷ ps) = begins_well text
begins_operand scope (quoted text ∷ ps) = begins_well text
begins_operand scope (parameter p ∷ ps) = is_plain scope p
begins_operand scope (quoted_parameter p ∷ ps) = is_plain scope p

-- whether a piece has a character that isn't in an option of `echo`
abbrev pub has_other_piece : Piece → Bool
has_other_piece (plain text) = has_other (codes "-neE") text
has_other_piece (quoted text) = has_other (codes "-neE") text
has_other_piece (parameter p) = false
has_other_piece (quoted_parameter p) = false

abbrev pub unknown_shape : Scope → Word → ShapeValue
unknown_shape scope w =
    if begins_operand scope w then operand
    else if list_any has_other_piece w then phrase else loose

abbrev pub shape_by : Option (List ℕ) → Scope → Word → ShapeValue
shape_by (Some text) scope w = literal text
shape_by None scope w = unknown_shape scope w

-- what is known of a word that is read alike
unfoldable pub shape_of : Scope → Word → ShapeValue
shape_of scope w = shape_by (literal_text w) scope w

-- ---- the words of a `for`

-- whether a text is a plain word: not empty, no dash before it, no blank and no pattern
abbrev pub is_plain_text : List ℕ → Bool
is_plain_text text = begins_well text && not (has_any (codes " \t\n*?[{") text)

abbrev pub is_plain_literal : Option (List ℕ) → Bool
is_plain_literal None = false
is_plain_literal (Some text) = is_plain_text text

-- whether a word is the same plain word in every state
abbrev pub is_plain_word : Word → Bool
is_plain_word w = is_plain_literal (literal_text w)
