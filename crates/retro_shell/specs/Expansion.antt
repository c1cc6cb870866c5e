-- What words become (XCU 2.6): fields, or one text.
--
-- Tilde prefixes and parameters are replaced, the values of unquoted parameters are split into
-- fields, and quotes are removed. There is no pathname expansion. No state is changed.
use Rattle.std.specs.Prelude.{ℕ, Bool, false, if◌then◌else◌, List, [], ◌∷◌, ◌++◌, length, drop, codes, decimal}
use Rattle.std.specs.Prelude.{Option, Some, None, option_map, unwrap_or}
use Rattle.std.specs.List.{filter_map}
use Rattle.std.specs.FinMap as map
use Rattle.retro_tree.specs.Path.{passwd}
use Rattle.retro_tree.specs.Tree.{node_in}
use Rattle.retro_tree.specs.Session.{session_in}
use Rattle.retro_tree.specs.User.{user_in}
use Rattle.retro_tree.specs.declared.state.State.{State}
use Rattle.retro_syntax.specs.Tree.{Parameter, status, variable, Piece, plain, quoted, parameter, quoted_parameter}
use Rattle.retro_syntax.specs.Tree.{Word, Item, argument, redirect}
use Rattle.retro_syntax.specs.Tildes.{TildePrefix, tilde_prefix}
use Rattle.retro_shell.specs.Fields.{Fields, no_fields, begin, add, add_split, close}
use Rattle.retro_shell.specs.declared.context.Context.{Context}

-- ---- tilde prefixes (XCU 2.6.1)

-- the value of HOME for an empty login name, and else the home directory of the user; None if the
-- variable isn't set or there is no such user
unfoldable pub home : ℕ → List ℕ → State → Option (List ℕ)
home sid [] s = map.get (session_in sid s.sessions).vars (codes "HOME")
home sid (c ∷ cs) s = option_map (λ user. user.home) (user_in (c ∷ cs) (node_in passwd s.tree))

-- a word whose first piece is replaced by a quoted home directory and the rest of the piece
abbrev pub with_home : Option (List ℕ) → List ℕ → Word → Word
with_home None rest w = w
with_home (Some text) rest w = quoted text ∷ plain rest ∷ drop 1 w

abbrev pub with_prefix : ℕ → Option TildePrefix → Word → State → Word
with_prefix sid None w s = w
with_prefix sid (Some prefix) w s = with_home (home sid prefix.login s) prefix.rest w

-- A word with its tilde prefix replaced by the home directory, which counts as quoted. A prefix
-- without a home directory stays as it is (own). The flag says whether the word is an assigned
-- value.
abbrev pub tilde_expanded : ℕ → Bool → Word → State → Word
tilde_expanded sid in_value w s = with_prefix sid (tilde_prefix in_value w) w s

module _ (context : Context) (s : State) where
  -- ---- parameters (XCU 2.5.2, 2.6.2)

  -- the status of the last pipeline in decimal, or a variable's value, which is empty if it isn't
  -- set
  unfoldable pub parameter_value : Parameter → List ℕ
  parameter_value status = decimal (unwrap_or context.last (session_in context.place.sid s.sessions).status)
  parameter_value (variable name) = unwrap_or (map.get (session_in context.place.sid s.sessions).vars name) []

  -- ---- fields (XCU 2.6.5, 2.6.7)

  -- A quoted piece opens a field even if it is empty. The value of an unquoted parameter is split.
  abbrev pub add_piece : Piece → Fields → Fields
  add_piece (plain text) f = add text f
  add_piece (quoted text) f = add text (begin f)
  add_piece (parameter p) f = add_split (parameter_value p) f
  add_piece (quoted_parameter p) f = add (parameter_value p) (begin f)

  abbrev pub add_pieces : List Piece → Fields → Fields
  add_pieces [] f = f
  add_pieces (p ∷ ps) f = add_pieces ps (add_piece p f)

  -- A word's end ends the open field.
  unfoldable pub add_word : Word → Fields → Fields
  add_word w f = close (add_pieces (tilde_expanded context.place.sid false w s) f)

  abbrev pub add_words : List Word → Fields → Fields
  add_words [] f = f
  add_words (w ∷ ws) f = add_words ws (add_word w f)

  -- the fields of words
  unfoldable pub fields : List Word → List (List ℕ)
  fields ws = (add_words ws no_fields).ended

  -- ---- one text

  abbrev pub piece_text : Piece → List ℕ
  piece_text (plain text) = text
  piece_text (quoted text) = text
  piece_text (parameter p) = parameter_value p
  piece_text (quoted_parameter p) = parameter_value p

  -- a text, and the texts of pieces after it
  abbrev pub text_with : List ℕ → List Piece → List ℕ
  text_with text [] = text
  text_with text (p ∷ ps) = text_with (text ++ piece_text p) ps

  -- the one text of a redirection's word or of an assigned value, which isn't split
  unfoldable pub single : Bool → Word → List ℕ
  single in_value w = text_with [] (tilde_expanded context.place.sid in_value w s)

-- ---- the words of a simple command

abbrev pub argument_word : Item → Option Word
argument_word (argument w) = Some w
argument_word (redirect d w) = None

-- the words that aren't words of redirections
abbrev pub arguments : List Item → List Word
arguments items = filter_map argument_word items
