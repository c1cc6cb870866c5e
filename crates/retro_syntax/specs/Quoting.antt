-- The tokens of a text, defined character by character: token recognition (XCU 2.3) with quotes
-- (XCU 2.2), parameters (XCU 2.6.2) and comments. None means a syntax error. The laws of the lexer
-- in specs/LexerLaws.antt and the canonical writing in specs/Writing.antt describe the same tokens
-- in other terms.
use Rattle.std.specs.Prelude.{ℕ, Bool, true, false, ◌&&◌, ◌||◌, ◌==◌, if◌then◌else◌, List, [], ◌∷◌, ◌++◌, Option, Some}
use Rattle.std.specs.Prelude.{None, codes}
use Rattle.std.specs.Char.{encode_utf8, is_ascii_digit}
use Rattle.retro_path.specs.VarName.{starts_name, continues_name, is_var_name}
use Rattle.retro_syntax.specs.Ascii as ascii
use Rattle.retro_syntax.specs.Tree.{Parameter, status, variable, Piece, plain, quoted, parameter, quoted_parameter}
use Rattle.retro_syntax.specs.Tree.{Token, semicolon, bar, connector, redirection, word}
use Rattle.retro_syntax.specs.declared.tree.Direction.TheVariants.{From, Onto, Append}
use Rattle.retro_syntax.specs.declared.tree.Connector.TheVariants.{AndIf, OrIf}

-- the quotes around a character (XCU 2.2)
pub data Quote : Type 0 where
  unquoted : Quote
  single : Quote
  double : Quote

-- the first character of an operator: `;`, `&`, `|`, `<` or `>`
pub data Operator : Type 0 where
  one_semicolon : Operator
  one_ampersand : Operator
  one_bar : Operator
  one_less : Operator
  one_greater : Operator

-- Where in a word the next character is: the word's pieces so far, and for a parameter whether it
-- is in double quotes, and its name so far.
pub data Reading : Type 0 where
  -- outside parameters; whether the word is unquoted digits only, and the quotes around the
  -- character
  in_word : List Piece → Bool → Quote → Reading
  -- after `$`
  dollar : List Piece → Bool → Reading
  -- after `$` and the start of a name
  dollar_name : List Piece → Bool → List ℕ → Reading
  -- after `${`, and perhaps the start of a name
  dollar_brace : List Piece → Bool → List ℕ → Reading
  -- after `${?`
  dollar_question : List Piece → Bool → Reading

-- what the next character may belong to
pub data Pending : Type 0 where
  between : Pending
  comment : Pending
  operator : Operator → Pending
  reading : Reading → Pending

-- the state after some characters: the tokens before the pending one, and the pending one
pub record Lexing : Type 0 where
  pub tokens : List Token
  pub pending : Pending
  -- whether the last character is a backslash that may quote the next one
  pub backslash : Bool

-- the state with this token pending
abbrev pub with_pending : List Token → Pending → Lexing
with_pending ts p = record { tokens = ts; pending = p; backslash = false }

abbrev pub word_goes_on : List Token → Reading → Option Lexing
word_goes_on ts r = Some (with_pending ts (reading r))

-- ---- Pieces of a word.

-- the last piece, with an unquoted character after it
abbrev pub grown_plain : Piece → ℕ → List Piece
grown_plain (plain t) c = plain (t ++ encode_utf8 c) ∷ []
grown_plain (quoted t) c = quoted t ∷ plain (encode_utf8 c) ∷ []
grown_plain (parameter p) c = parameter p ∷ plain (encode_utf8 c) ∷ []
grown_plain (quoted_parameter p) c = quoted_parameter p ∷ plain (encode_utf8 c) ∷ []

-- the pieces, with an unquoted character after them
abbrev pub add_plain : List Piece → ℕ → List Piece
add_plain [] c = plain (encode_utf8 c) ∷ []
add_plain (p ∷ []) c = grown_plain p c
add_plain (p ∷ q ∷ ps) c = p ∷ add_plain (q ∷ ps) c

-- the last piece, with a quoted text after it
abbrev pub grown_quoted : Piece → List ℕ → List Piece
grown_quoted (quoted t) s = quoted (t ++ s) ∷ []
grown_quoted (plain t) s = plain t ∷ quoted s ∷ []
grown_quoted (parameter p) s = parameter p ∷ quoted s ∷ []
grown_quoted (quoted_parameter p) s = quoted_parameter p ∷ quoted s ∷ []

-- the pieces, with a quoted text after them; an empty text begins a quoted piece
abbrev pub add_quoted : List Piece → List ℕ → List Piece
add_quoted [] s = quoted s ∷ []
add_quoted (p ∷ []) s = grown_quoted p s
add_quoted (p ∷ q ∷ ps) s = p ∷ add_quoted (q ∷ ps) s

abbrev pub parameter_piece : Bool → Parameter → Piece
parameter_piece inside p = if inside then quoted_parameter p else parameter p

abbrev pub quote_of : Bool → Quote
quote_of inside = if inside then double else unquoted

-- after a parameter's last character
abbrev pub with_parameter : List Token → List Piece → Bool → Parameter → Option Lexing
with_parameter ts ps inside p =
    word_goes_on ts (in_word (ps ++ parameter_piece inside p ∷ []) false (quote_of inside))

-- the same for a variable; a name that a line may not use is refused
abbrev pub with_variable : List Token → List Piece → Bool → List ℕ → Option Lexing
with_variable ts ps inside n =
    if is_var_name n then with_parameter ts ps inside (variable n) else None

-- the pieces, with a `$` after them that begins no parameter
abbrev pub add_dollar : List Piece → Bool → List Piece
add_dollar ps inside =
    if inside then add_quoted ps (encode_utf8 ascii.dollar) else add_plain ps ascii.dollar

-- ---- Where a token may begin.

abbrev pub is_blank : ℕ → Bool
is_blank c = c == ascii.space || c == ascii.tab

abbrev pub is_operator : ℕ → Bool
is_operator c = ascii.is_among (codes ";&|<>") c

-- newlines, NUL, parentheses and backquotes are refused outside quotes
abbrev pub is_refused : ℕ → Bool
is_refused c = c == ascii.nul || c == ascii.newline || ascii.is_among (codes "()`") c

-- after a character of a word, outside quotes
abbrev pub unquoted_at : List Token → List Piece → Bool → ℕ → Option Lexing
unquoted_at ts ps digits c =
    if c == ascii.single_quote then word_goes_on ts (in_word (add_quoted ps []) false single)
    else (if c == ascii.double_quote then word_goes_on ts (in_word (add_quoted ps []) false double)
    else (if c == ascii.dollar then word_goes_on ts (dollar ps false)
    else (if is_refused c then None
    else word_goes_on ts (in_word (add_plain ps c) (digits && is_ascii_digit c) unquoted))))

-- after a character where a token may begin
abbrev pub begin_token : List Token → ℕ → Option Lexing
begin_token ts c =
    if is_blank c then Some (with_pending ts between)
    else (if c == ascii.semicolon then Some (with_pending ts (operator one_semicolon))
    else (if c == ascii.ampersand then Some (with_pending ts (operator one_ampersand))
    else (if c == ascii.bar then Some (with_pending ts (operator one_bar))
    else (if c == ascii.less then Some (with_pending ts (operator one_less))
    else (if c == ascii.greater then Some (with_pending ts (operator one_greater))
    else (if c == ascii.hash then Some (with_pending ts comment)
    else unquoted_at ts [] true c))))))

-- The tokens with a one-character operator. A single `&` is refused.
abbrev pub end_operator : List Token → Operator → Option (List Token)
end_operator ts one_semicolon = Some (ts ++ semicolon ∷ [])
end_operator ts one_ampersand = None
end_operator ts one_bar = Some (ts ++ bar ∷ [])
end_operator ts one_less = Some (ts ++ redirection From ∷ [])
end_operator ts one_greater = Some (ts ++ redirection Onto ∷ [])

-- ---- In a word.

-- After a character in a word, or after the word. A redirection of a file descriptor, as `2>`, is
-- refused.
abbrev pub word_at : List Token → List Piece → Bool → Quote → ℕ → Option Lexing
word_at ts ps digits unquoted c =
    if is_blank c || is_operator c then
    (if digits && (c == ascii.less || c == ascii.greater) then None
    else begin_token (ts ++ word ps ∷ []) c)
    else unquoted_at ts ps digits c
word_at ts ps digits single c =
    if c == ascii.single_quote then word_goes_on ts (in_word ps false unquoted)
    else (if c == ascii.nul then None
    else word_goes_on ts (in_word (add_quoted ps (encode_utf8 c)) false single))
word_at ts ps digits double c =
    if c == ascii.double_quote then word_goes_on ts (in_word ps false unquoted)
    else (if c == ascii.dollar then word_goes_on ts (dollar ps true)
    else (if c == ascii.nul || c == ascii.backquote then None
    else word_goes_on ts (in_word (add_quoted ps (encode_utf8 c)) false double)))

-- A character after `$` that begins a parameter or substitution that isn't supported: a digit or
-- one of @*#-$!(
abbrev pub is_other_parameter : ℕ → Bool
is_other_parameter c = is_ascii_digit c || ascii.is_among (codes "@*#-$!(") c

-- after a character that follows a variable's name
abbrev pub after_variable : List Token → List Piece → Bool → List ℕ → ℕ → Option Lexing
after_variable ts ps inside n c =
    if is_var_name n
    then word_at ts (ps ++ parameter_piece inside (variable n) ∷ []) false (quote_of inside) c
    else None

-- after a character of a word or parameter
abbrev pub reading_at : List Token → Reading → ℕ → Option Lexing
reading_at ts (in_word ps digits q) c = word_at ts ps digits q c
reading_at ts (dollar ps inside) c =
    if starts_name c then word_goes_on ts (dollar_name ps inside (encode_utf8 c))
    else (if c == ascii.left_brace then word_goes_on ts (dollar_brace ps inside [])
    else (if c == ascii.question then with_parameter ts ps inside status
    else (if is_other_parameter c then None
    else word_at ts (add_dollar ps inside) false (quote_of inside) c)))
reading_at ts (dollar_name ps inside n) c =
    if continues_name c then word_goes_on ts (dollar_name ps inside (n ++ encode_utf8 c))
    else after_variable ts ps inside n c
reading_at ts (dollar_brace ps inside []) c =
    if c == ascii.question then word_goes_on ts (dollar_question ps inside)
    else (if starts_name c then word_goes_on ts (dollar_brace ps inside (encode_utf8 c)) else None)
reading_at ts (dollar_brace ps inside (b ∷ n)) c =
    if c == ascii.right_brace then with_variable ts ps inside (b ∷ n)
    else (if continues_name c then word_goes_on ts (dollar_brace ps inside ((b ∷ n) ++ encode_utf8 c))
    else None)
reading_at ts (dollar_question ps inside) c =
    if c == ascii.right_brace then with_parameter ts ps inside status else None

-- After a character that follows an operator's first one. These are refused: `;;`, `<<`, `<&`,
-- `<>`, `>&`, `>|`.
abbrev pub operator_at : List Token → Operator → ℕ → Option Lexing
operator_at ts one_semicolon c = if c == ascii.semicolon then None else begin_token (ts ++ semicolon ∷ []) c
operator_at ts one_ampersand c =
    if c == ascii.ampersand then Some (with_pending (ts ++ connector AndIf ∷ []) between) else None
operator_at ts one_bar c =
    if c == ascii.bar then Some (with_pending (ts ++ connector OrIf ∷ []) between)
    else begin_token (ts ++ bar ∷ []) c
operator_at ts one_less c =
    if c == ascii.less || c == ascii.ampersand || c == ascii.greater then None
    else begin_token (ts ++ redirection From ∷ []) c
operator_at ts one_greater c =
    if c == ascii.greater then Some (with_pending (ts ++ redirection Append ∷ []) between)
    else (if c == ascii.ampersand || c == ascii.bar then None
    else begin_token (ts ++ redirection Onto ∷ []) c)

-- after a character that no backslash quotes
abbrev pub plain_at : List Token → Pending → ℕ → Option Lexing
plain_at ts between c = begin_token ts c
plain_at ts comment c =
    if c == ascii.nul || c == ascii.newline then None else Some (with_pending ts comment)
plain_at ts (operator op) c = operator_at ts op c
plain_at ts (reading r) c = reading_at ts r c

-- ---- After a character that a backslash quotes (XCU 2.2.1).

-- the characters that a backslash quotes in double quotes (XCU 2.2.3)
abbrev pub is_special_inside : ℕ → Bool
is_special_inside c = ascii.is_among (codes "$`\"\\") c

abbrev pub escaped_in : List Token → List Piece → Quote → ℕ → Option Lexing
escaped_in ts ps double c =
    if is_special_inside c
    then word_goes_on ts (in_word (add_quoted ps (encode_utf8 c)) false double)
    else word_goes_on ts
    (in_word (add_quoted (add_quoted ps (encode_utf8 ascii.backslash)) (encode_utf8 c)) false double)
escaped_in ts ps unquoted c =
    word_goes_on ts (in_word (add_quoted ps (encode_utf8 c)) false unquoted)
escaped_in ts ps single c = None

abbrev pub escaped_reading : List Token → Reading → ℕ → Option Lexing
escaped_reading ts (in_word ps digits q) c = escaped_in ts ps q c
escaped_reading ts (dollar ps inside) c =
    escaped_in ts (add_dollar ps inside) (quote_of inside) c
escaped_reading ts (dollar_name ps inside n) c =
    if is_var_name n
    then escaped_in ts (ps ++ parameter_piece inside (variable n) ∷ []) (quote_of inside) c
    else None
escaped_reading ts (dollar_brace ps inside n) c = None
escaped_reading ts (dollar_question ps inside) c = None

abbrev pub escaped_operator : Option (List Token) → ℕ → Option Lexing
escaped_operator None c = None
escaped_operator (Some ts) c = escaped_in ts [] unquoted c

abbrev pub escaped_at : List Token → Pending → ℕ → Option Lexing
escaped_at ts between c = escaped_in ts [] unquoted c
escaped_at ts comment c = None
escaped_at ts (operator op) c = escaped_operator (end_operator ts op) c
escaped_at ts (reading r) c = escaped_reading ts r c

-- whether a backslash may quote the next character
abbrev pub takes_backslash : Pending → Bool
takes_backslash between = true
takes_backslash comment = false
takes_backslash (operator op) = true
takes_backslash (reading (in_word ps digits single)) = false
takes_backslash (reading (in_word ps digits unquoted)) = true
takes_backslash (reading (in_word ps digits double)) = true
takes_backslash (reading (dollar ps inside)) = true
takes_backslash (reading (dollar_name ps inside n)) = true
takes_backslash (reading (dollar_brace ps inside n)) = true
takes_backslash (reading (dollar_question ps inside)) = true

-- The state after a character. A backslash and a newline are removed.
unfoldable pub lex_step : Lexing → ℕ → Option Lexing
lex_step l c =
    if l.backslash then
    (if c == ascii.newline then Some (with_pending l.tokens l.pending)
    else (if c == ascii.nul then None
    else escaped_at l.tokens l.pending c))
    else (if c == ascii.backslash && takes_backslash l.pending
    then Some (record l { backslash = true })
    else plain_at l.tokens l.pending c)

-- the state after these characters
abbrev pub lex_run : Option Lexing → List ℕ → Option Lexing
lex_run None cs = None
lex_run (Some l) [] = Some l
lex_run (Some l) (c ∷ cs) = lex_run (lex_step l c) cs

-- ---- At the end of the text.

abbrev pub reading_end : List Token → Reading → Option (List Token)
reading_end ts (in_word ps digits unquoted) = Some (ts ++ word ps ∷ [])
reading_end ts (in_word ps digits single) = None
reading_end ts (in_word ps digits double) = None
reading_end ts (dollar ps true) = None
reading_end ts (dollar ps false) = Some (ts ++ word (add_dollar ps false) ∷ [])
reading_end ts (dollar_name ps true n) = None
reading_end ts (dollar_name ps false n) =
    if is_var_name n then Some (ts ++ word (ps ++ parameter (variable n) ∷ []) ∷ []) else None
reading_end ts (dollar_brace ps inside n) = None
reading_end ts (dollar_question ps inside) = None

abbrev pub lex_end_at : List Token → Pending → Bool → Option (List Token)
lex_end_at ts p true = None
lex_end_at ts between false = Some ts
lex_end_at ts comment false = Some ts
lex_end_at ts (operator op) false = end_operator ts op
lex_end_at ts (reading r) false = reading_end ts r

abbrev pub lex_end : Option Lexing → Option (List Token)
lex_end None = None
lex_end (Some l) = lex_end_at l.tokens l.pending l.backslash

-- the tokens of a text's characters
unfoldable pub tokens_of : List ℕ → Option (List Token)
tokens_of cs = lex_end (lex_run (Some (with_pending [] between)) cs)
