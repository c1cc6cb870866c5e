-- The canonical writing of tokens: quoted parts in double quotes, parameters as `${name}`, and a
-- blank after each token. `writing_is_read` says that the lexer reads tokens back from their
-- writing.
use Rattle.std.specs.Prelude.{◌≡◌, ℕ, Bool, true, false, not, ◌&&◌, ◌||◌, ◌==◌, List, [], ◌∷◌, ◌++◌, map, codes}
use Rattle.std.specs.Prelude.{if◌then◌else◌}
use Rattle.std.specs.Char.{encode_utf8}
use Rattle.retro_syntax.specs.Ascii as ascii
use Rattle.retro_syntax.specs.Tree as T
use Rattle.retro_path.specs.VarName.{starts_name, is_var_name}
use Rattle.retro_syntax.specs.Quoting.{is_other_parameter, is_special_inside}
use Rattle.retro_syntax.specs.declared.tree.Direction.{Direction}
use Rattle.retro_syntax.specs.declared.tree.Direction.TheVariants.{From, Onto, Append}
use Rattle.retro_syntax.specs.declared.tree.Connector.{Connector}
use Rattle.retro_syntax.specs.declared.tree.Connector.TheVariants.{AndIf, OrIf}

-- a part of a word, by its characters
pub data Part : Type 0 where
  unquoted : List ℕ → Part
  -- quoted characters, and the parameters after them in the same quotes
  quoted : List ℕ → List T.Parameter → Part
  -- a parameter outside quotes
  parameter : T.Parameter → Part

-- a token, with its words by their parts
pub data Written : Type 0 where
  semicolon : Written
  bar : Written
  connector : Connector → Written
  redirection : Direction → Written
  word : List Part → Written

-- ---- The tokens that are written.

abbrev pub bytes_of : List ℕ → List ℕ
bytes_of [] = []
bytes_of (c ∷ cs) = encode_utf8 c ++ bytes_of cs

abbrev pub pieces_of : Part → List T.Piece
pieces_of (unquoted cs) = T.plain (bytes_of cs) ∷ []
pieces_of (quoted cs ns) = T.quoted (bytes_of cs) ∷ map T.quoted_parameter ns
pieces_of (parameter n) = T.parameter n ∷ []

abbrev pub word_of : List Part → T.Word
word_of [] = []
word_of (p ∷ ps) = pieces_of p ++ word_of ps

abbrev pub token_of : Written → T.Token
token_of semicolon = T.semicolon
token_of bar = T.bar
token_of (connector op) = T.connector op
token_of (redirection d) = T.redirection d
token_of (word ps) = T.word (word_of ps)

-- ---- How they are written, followed by the characters `r`.

-- the text in the braces
abbrev pub parameter_text : T.Parameter → List ℕ
parameter_text T.status = codes "?"
parameter_text (T.variable n) = n

abbrev pub braces_then : T.Parameter → List ℕ → List ℕ
braces_then p r = ascii.dollar ∷ ascii.left_brace ∷ parameter_text p ++ ascii.right_brace ∷ r

abbrev pub parameters_then : List T.Parameter → List ℕ → List ℕ
parameters_then [] r = r
parameters_then (p ∷ ps) r = braces_then p (parameters_then ps r)

-- with a backslash before each of $ ` " and the backslash
abbrev pub escaped_then : List ℕ → List ℕ → List ℕ
escaped_then [] r = r
escaped_then (c ∷ cs) r =
    if is_special_inside c then ascii.backslash ∷ c ∷ escaped_then cs r else c ∷ escaped_then cs r

abbrev pub part_then : Part → List ℕ → List ℕ
part_then (unquoted cs) r = cs ++ r
part_then (quoted cs ns) r =
    ascii.double_quote ∷ escaped_then cs (parameters_then ns (ascii.double_quote ∷ r))
part_then (parameter n) r = braces_then n r

abbrev pub parts_then : List Part → List ℕ → List ℕ
parts_then [] r = r
parts_then (p ∷ ps) r = part_then p (parts_then ps r)

abbrev pub connector_then : Connector → List ℕ → List ℕ
connector_then AndIf r = ascii.ampersand ∷ ascii.ampersand ∷ r
connector_then OrIf r = ascii.bar ∷ ascii.bar ∷ r

abbrev pub direction_then : Direction → List ℕ → List ℕ
direction_then From r = ascii.less ∷ r
direction_then Onto r = ascii.greater ∷ r
direction_then Append r = ascii.greater ∷ ascii.greater ∷ r

abbrev pub token_then : Written → List ℕ → List ℕ
token_then semicolon r = ascii.semicolon ∷ r
token_then bar r = ascii.bar ∷ r
token_then (connector op) r = connector_then op r
token_then (redirection d) r = direction_then d r
token_then (word ps) r = parts_then ps r

abbrev pub written : List Written → List ℕ
written [] = []
written (w ∷ ws) = token_then w (ascii.space ∷ written ws)

-- ---- What has a canonical writing.

-- What no unquoted part has, but for a `$` that begins no parameter.
abbrev pub breaking_characters : List ℕ
breaking_characters =
    ascii.backslash ∷ ascii.space ∷ ascii.tab ∷ ascii.semicolon ∷ ascii.ampersand ∷ ascii.bar
    ∷ ascii.less ∷ ascii.greater ∷ ascii.single_quote ∷ ascii.double_quote ∷ ascii.dollar
    ∷ ascii.nul ∷ ascii.newline ∷ ascii.left_parenthesis ∷ ascii.right_parenthesis
    ∷ ascii.backquote ∷ []

abbrev pub fits : ℕ → Bool
fits c = not (ascii.is_among breaking_characters c)

-- whether a character after `$` begins a parameter
abbrev pub begins_parameter : ℕ → Bool
begins_parameter c =
    starts_name c || (c == ascii.left_brace || (c == ascii.question || is_other_parameter c))

-- Whether a `$` before these characters begins no parameter. `followed` says whether a parameter
-- follows the part.
abbrev pub is_literal_dollar : Bool → List ℕ → Bool
is_literal_dollar followed [] = not followed
is_literal_dollar followed (c ∷ cs) = not (begins_parameter c)

abbrev pub are_unquoted : Bool → List ℕ → Bool
are_unquoted followed [] = true
are_unquoted followed (c ∷ cs) =
    (fits c || (c == ascii.dollar && is_literal_dollar followed cs)) && are_unquoted followed cs

-- quoted characters: any but NUL
abbrev pub are_quoted : List ℕ → Bool
are_quoted [] = true
are_quoted (c ∷ cs) = not (c == ascii.nul) && are_quoted cs

abbrev pub is_parameter : T.Parameter → Bool
is_parameter T.status = true
is_parameter (T.variable n) = is_var_name n

abbrev pub are_parameters : List T.Parameter → Bool
are_parameters [] = true
are_parameters (p ∷ ps) = is_parameter p && are_parameters ps

abbrev pub is_part : Bool → Part → Bool
is_part followed (unquoted []) = false
is_part followed (unquoted (c ∷ cs)) = are_unquoted followed (c ∷ cs)
is_part followed (quoted cs ns) = are_quoted cs && are_parameters ns
is_part followed (parameter n) = is_parameter n

abbrev pub is_unquoted_parameter : Part → Bool
is_unquoted_parameter (unquoted cs) = false
is_unquoted_parameter (quoted cs ns) = false
is_unquoted_parameter (parameter n) = true

-- Two adjacent unquoted parts would be one part, and so would two quoted parts without parameters
-- between them.
abbrev pub are_apart : Part → Part → Bool
are_apart (unquoted cs) (unquoted ds) = false
are_apart (unquoted cs) (quoted ds ms) = true
are_apart (unquoted cs) (parameter m) = true
are_apart (quoted cs ns) (unquoted ds) = true
are_apart (quoted cs []) (quoted ds ms) = false
are_apart (quoted cs (n ∷ ns)) (quoted ds ms) = true
are_apart (quoted cs ns) (parameter m) = true
are_apart (parameter n) q = true

abbrev pub are_parts : List Part → Bool
are_parts [] = true
are_parts (p ∷ []) = is_part false p
are_parts (p ∷ q ∷ ps) =
    is_part (is_unquoted_parameter q) p && (are_apart p q && are_parts (q ∷ ps))

-- a word that has a part, and that begins no comment
abbrev pub begins_no_comment : List Part → Bool
begins_no_comment [] = false
begins_no_comment (unquoted [] ∷ ps) = false
begins_no_comment (unquoted (c ∷ cs) ∷ ps) = not (c == ascii.hash)
begins_no_comment (quoted cs ns ∷ ps) = true
begins_no_comment (parameter n ∷ ps) = true

abbrev pub is_writable : Written → Bool
is_writable semicolon = true
is_writable bar = true
is_writable (connector op) = true
is_writable (redirection d) = true
is_writable (word ps) = begins_no_comment ps && are_parts ps

abbrev pub are_writable : List Written → Bool
are_writable [] = true
are_writable (w ∷ ws) = is_writable w && are_writable ws

-- The tokens have a canonical writing.
pub record HasWriting (ts : List T.Token) : Type 0 where
  pub tokens : List Written
  pub writable : are_writable tokens ≡ true
  pub same : map token_of tokens ≡ ts
