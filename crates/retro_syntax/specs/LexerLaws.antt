-- Laws of the lexer. Each relates the reading of two texts, from any state in which they may occur.
-- So they describe the tokens of specs/Quoting.antt in other terms. `ts` are the tokens before, and
-- `p` is where the next character is.
use Rattle.std.specs.Prelude.{◌≡◌, ℕ, Bool, true, false, not, ◌&&◌, ◌||◌, ◌==◌, List, [], ◌∷◌, ◌++◌, Some}
use Rattle.retro_path.specs.VarName.{continues_name, is_shell_name}
use Rattle.retro_syntax.specs.Ascii as ascii
use Rattle.retro_syntax.specs.Tree.{Token}
use Rattle.retro_syntax.specs.Quoting.{unquoted, single, double, Operator, one_semicolon, one_ampersand, one_bar}
use Rattle.retro_syntax.specs.Quoting.{one_less, one_greater, in_word, dollar, dollar_name, dollar_brace}
use Rattle.retro_syntax.specs.Quoting.{dollar_question, Pending, between, comment, operator, reading, with_pending}
use Rattle.retro_syntax.specs.Quoting.{is_blank, is_operator, takes_backslash, lex_run, lex_end}
use Rattle.retro_syntax.specs.Writing.{escaped_then}

-- Both texts lead to the same state.
abbrev pub ReadAlike : List Token → Pending → List ℕ → List ℕ → Type 0
ReadAlike ts p cs ds = lex_run (Some (with_pending ts p)) cs ≡ lex_run (Some (with_pending ts p)) ds

-- Both texts, at the end of the line, give the same tokens.
abbrev pub EndAlike : List Token → Pending → List ℕ → List ℕ → Type 0
EndAlike ts p cs ds =
    lex_end (lex_run (Some (with_pending ts p)) cs)
    ≡ lex_end (lex_run (Some (with_pending ts p)) ds)

-- ---- Quotes.

-- whether the next character is outside quotes, braces and comments
abbrev pub is_outside : Pending → Bool
is_outside between = true
is_outside comment = false
is_outside (operator op) = true
is_outside (reading (in_word ps digits unquoted)) = true
is_outside (reading (in_word ps digits single)) = false
is_outside (reading (in_word ps digits double)) = false
is_outside (reading (dollar ps inside)) = not inside
is_outside (reading (dollar_name ps inside n)) = not inside
is_outside (reading (dollar_brace ps inside n)) = false
is_outside (reading (dollar_question ps inside)) = false

abbrev pub has_no_single_quote : List ℕ → Bool
has_no_single_quote [] = true
has_no_single_quote (c ∷ cs) = not (c == ascii.single_quote) && has_no_single_quote cs

-- the text in double quotes, with a backslash before each of $ ` " and the backslash
abbrev pub double_quoted : List ℕ → List ℕ → List ℕ
double_quoted cs r = ascii.double_quote ∷ escaped_then cs (ascii.double_quote ∷ r)

-- A text in single quotes reads as the text in double quotes.
abbrev pub SingleQuotesLaw : Type 0
SingleQuotesLaw =
    (ts : List Token) (p : Pending) (cs r : List ℕ) → is_outside p ≡ true
    → has_no_single_quote cs ≡ true
    → ReadAlike ts p (ascii.single_quote ∷ cs ++ ascii.single_quote ∷ r) (double_quoted cs r)

-- Outside quotes, a character after a backslash reads as the character in double quotes. A newline
-- is the exception.
abbrev pub BackslashLaw : Type 0
BackslashLaw =
    (ts : List Token) (p : Pending) (c : ℕ) (r : List ℕ) → is_outside p ≡ true
    → (c == ascii.newline) ≡ false
    → ReadAlike ts p (ascii.backslash ∷ c ∷ r) (double_quoted (c ∷ []) r)

-- Where a backslash may quote, a backslash and a newline read as nothing.
abbrev pub RemovedNewlineLaw : Type 0
RemovedNewlineLaw =
    (ts : List Token) (p : Pending) (r : List ℕ) → takes_backslash p ≡ true
    → ReadAlike ts p (ascii.backslash ∷ ascii.newline ∷ r) r

-- ---- Parameters.

-- Neither a character of a name follows, nor a backslash: a newline after it would be removed.
abbrev pub ends_name : List ℕ → Bool
ends_name [] = true
ends_name (c ∷ cs) = not (c == ascii.backslash) && not (continues_name c)

-- `$name` reads as `${name}`, also where both are refused.
abbrev pub BracesLaw : Type 0
BracesLaw =
    (ts : List Token) (p : Pending) (n r : List ℕ) → takes_backslash p ≡ true
    → is_shell_name n ≡ true → ends_name r ≡ true
    → EndAlike ts p (ascii.dollar ∷ n ++ r)
    (ascii.dollar ∷ ascii.left_brace ∷ n ++ ascii.right_brace ∷ r)

-- ---- Blanks and comments.

-- whether an operator `o` ends a word here, or nothing; digits before `<` or `>` would number a
-- file
abbrev pub ends_before : ℕ → Pending → Bool
ends_before o between = true
ends_before o comment = false
ends_before o (operator op) = false
ends_before o (reading (in_word ps digits unquoted)) =
    not (digits && (o == ascii.less || o == ascii.greater))
ends_before o (reading (in_word ps digits single)) = false
ends_before o (reading (in_word ps digits double)) = false
ends_before o (reading (dollar ps inside)) = not inside
ends_before o (reading (dollar_name ps inside n)) = not inside
ends_before o (reading (dollar_brace ps inside n)) = false
ends_before o (reading (dollar_question ps inside)) = false

-- whether an operator and the character are one operator, or are refused together
abbrev pub continues : Operator → ℕ → Bool
continues one_semicolon c = c == ascii.semicolon
continues one_ampersand c = c == ascii.ampersand
continues one_bar c = c == ascii.bar
continues one_less c = c == ascii.less || c == ascii.ampersand || c == ascii.greater
continues one_greater c = c == ascii.greater || (c == ascii.ampersand || c == ascii.bar)

-- A blank before an operator reads as nothing.
abbrev pub BlankBeforeLaw : Type 0
BlankBeforeLaw =
    (ts : List Token) (p : Pending) (b o : ℕ) (r : List ℕ) → is_blank b ≡ true
    → is_operator o ≡ true → ends_before o p ≡ true → ReadAlike ts p (b ∷ o ∷ r) (o ∷ r)

-- A blank after an operator reads as nothing, unless the next character would continue the
-- operator.
abbrev pub BlankAfterLaw : Type 0
BlankAfterLaw =
    (ts : List Token) (op : Operator) (b c : ℕ) (r : List ℕ) → is_blank b ≡ true
    → (c == ascii.backslash) ≡ false → continues op c ≡ false
    → ReadAlike ts (operator op) (b ∷ c ∷ r) (c ∷ r)

-- A blank between tokens reads as nothing.
abbrev pub BlankBetweenLaw : Type 0
BlankBetweenLaw =
    (ts : List Token) (b : ℕ) (r : List ℕ) → is_blank b ≡ true → ReadAlike ts between (b ∷ r) r

-- whether a token may begin
abbrev pub is_token_start : Pending → Bool
is_token_start between = true
is_token_start comment = false
is_token_start (operator op) = true
is_token_start (reading r) = false

abbrev pub has_no_nul_or_newline : List ℕ → Bool
has_no_nul_or_newline [] = true
has_no_nul_or_newline (c ∷ cs) =
    not (c == ascii.nul || c == ascii.newline) && has_no_nul_or_newline cs

-- A comment reads as nothing.
abbrev pub CommentLaw : Type 0
CommentLaw =
    (ts : List Token) (p : Pending) (cs : List ℕ) → is_token_start p ≡ true
    → has_no_nul_or_newline cs ≡ true → EndAlike ts p (ascii.hash ∷ cs) []
