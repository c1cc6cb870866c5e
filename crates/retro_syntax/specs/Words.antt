-- What a word is where a command may begin: a reserved word, an assignment, a word that this shell
-- refuses, or an ordinary word (XCU 2.4, 2.10.2). The rule on names is that of `VarName`.
use Rattle.std.specs.Prelude.{ℕ, Bool, true, false, not, List, [], ◌∷◌, Option, Some, None, option_map, option_and_then}
use Rattle.std.specs.Prelude.{if◌then◌else◌, codes, ◌||◌, ◌&&◌, ◌==◌}
use Rattle.std.specs.Str.{bytes_eq}
use Rattle.retro_path.specs.VarName.{is_shell_name, is_var_name, var_name_of}
use Rattle.retro_syntax.specs.Ascii as ascii
use Rattle.retro_syntax.specs.Tree.{Piece, plain, quoted, parameter, quoted_parameter, Word, Assignment, Token}
use Rattle.retro_syntax.specs.Tree.{semicolon, bar, connector, redirection, word, spelling}
use Rattle.retro_syntax.specs.declared.tree.ReservedWord.{ReservedWord}
use Rattle.retro_syntax.specs.declared.tree.ReservedWord.TheVariants.{Bang as bang, If as key_if, Then as key_then}
use Rattle.retro_syntax.specs.declared.tree.ReservedWord.TheVariants.{Elif as key_elif, Else as key_else, Fi as key_fi}
use Rattle.retro_syntax.specs.declared.tree.ReservedWord.TheVariants.{For as key_for, In as key_in, Do as key_do}
use Rattle.retro_syntax.specs.declared.tree.ReservedWord.TheVariants.{Done as key_done}
use Rattle.retro_syntax.specs.declared.words.Class.{Class}
use Rattle.retro_syntax.specs.declared.words.Class.TheVariants.{Reserved as reserved, Forbidden as forbidden}
use Rattle.retro_syntax.specs.declared.words.Class.TheVariants.{Assignment as assignment, Ordinary as ordinary}

-- the first of these reserved words that is spelled like the text
abbrev pub lookup : List ReservedWord → List ℕ → Option ReservedWord
lookup [] text = None
lookup (k ∷ ks) text = if bytes_eq (spelling k) text then Some k else lookup ks text

-- the reserved words that the grammar has a rule for
abbrev pub reserved_words : List ReservedWord
reserved_words =
    bang ∷ key_if ∷ key_then ∷ key_elif ∷ key_else ∷ key_fi
    ∷ key_for ∷ key_in ∷ key_do ∷ key_done ∷ []

abbrev pub is_one_of : List (List ℕ) → List ℕ → Bool
is_one_of [] text = false
is_one_of (t ∷ ts) text = bytes_eq t text || is_one_of ts text

-- The other reserved words. Where a reserved word is recognized, they are refused.
abbrev pub other_reserved : List (List ℕ)
other_reserved =
    codes "{" ∷ codes "}" ∷ codes "case" ∷ codes "esac" ∷ codes "until" ∷ codes "while" ∷ []

-- ---- assignments

-- the texts before and after the first `=`
abbrev pub split_equals : List ℕ → Option (List ℕ × List ℕ)
split_equals [] = None
split_equals (c ∷ cs) =
    if c == ascii.equals then Some ([], cs)
    else option_map (λ s. (c ∷ s.0, s.1)) (split_equals cs)

abbrev pub if_named : List ℕ × List ℕ → Option (List ℕ × List ℕ)
if_named s = if is_shell_name s.0 then Some s else None

-- The name and the rest of a text that begins with `name=`, where the name has the shell's grammar.
abbrev pub split_name : List ℕ → Option (List ℕ × List ℕ)
split_name text = option_and_then if_named (split_equals text)

-- the assignment `name=text`, whose value continues with these pieces
abbrev pub assigned : List ℕ → List ℕ → List Piece → Assignment
assigned n text ps = record { name = n; value = plain text ∷ ps }

-- The assignment that a word has the form of: it begins with an unquoted `name=`.
abbrev pub assignment_form : Word → Option Assignment
assignment_form [] = None
assignment_form (plain text ∷ ps) = option_map (λ s. assigned s.0 s.1 ps) (split_name text)
assignment_form (quoted text ∷ ps) = None
assignment_form (parameter n ∷ ps) = None
assignment_form (quoted_parameter n ∷ ps) = None

abbrev pub if_var_name : Assignment → Option Assignment
if_var_name a = if is_var_name a.name then Some a else None

-- What a word assigns: it has the form of an assignment, and a line may assign the variable.
abbrev pub assignment_of : Word → Option Assignment
assignment_of w = option_and_then if_var_name (assignment_form w)

abbrev pub begins_tilde : List ℕ → Bool
begins_tilde [] = false
begins_tilde (c ∷ cs) = c == ascii.tilde

-- whether `:~` is in the text
abbrev pub has_colon_tilde : List ℕ → Bool
has_colon_tilde [] = false
has_colon_tilde (c ∷ cs) = (c == ascii.colon && begins_tilde cs) || has_colon_tilde cs

-- Whether an unquoted `:~` is in the word. A shell would expand that tilde (XCU 2.6.1); this one
-- refuses the assignment.
abbrev pub has_unquoted_colon_tilde : Word → Bool
has_unquoted_colon_tilde [] = false
has_unquoted_colon_tilde (plain text ∷ ps) = has_colon_tilde text || has_unquoted_colon_tilde ps
has_unquoted_colon_tilde (quoted text ∷ ps) = has_unquoted_colon_tilde ps
has_unquoted_colon_tilde (parameter n ∷ ps) = has_unquoted_colon_tilde ps
has_unquoted_colon_tilde (quoted_parameter n ∷ ps) = has_unquoted_colon_tilde ps

-- Whether a line may have the assignment: it may assign the variable, and no unquoted `:~` is in
-- the value.
abbrev pub is_supported : Assignment → Bool
is_supported a = is_var_name a.name && not (has_unquoted_colon_tilde a.value)

-- ---- what a word is

-- An assignment that isn't supported is refused, and is no command's name.
abbrev pub assignment_class : Assignment → Class
assignment_class a = if is_supported a then assignment else forbidden

-- an unquoted word of one piece, by the reserved word that it spells
abbrev pub plain_class : List ℕ → Option ReservedWord → Class
plain_class text (Some k) = reserved k
plain_class text None = if is_one_of other_reserved text then forbidden else ordinary

-- a word, by the assignment that it has the form of
abbrev pub class_by : Word → Option Assignment → Class
class_by w (Some a) = assignment_class a
class_by (plain text ∷ []) None = plain_class text (lookup reserved_words text)
class_by w None = ordinary

-- what a word is where a command may begin
unfoldable pub class : Word → Class
class w = class_by w (assignment_form w)

abbrev pub class_of_token : Token → Class
class_of_token (word w) = class w
class_of_token semicolon = ordinary
class_of_token bar = ordinary
class_of_token (connector op) = ordinary
class_of_token (redirection d) = ordinary

-- the name of a variable that a word is, for `for`
unfoldable pub name_of : Word → Option (List ℕ)
name_of [] = None
name_of (plain text ∷ []) = var_name_of text
name_of (plain text ∷ p ∷ ps) = None
name_of (quoted text ∷ ps) = None
name_of (parameter n ∷ ps) = None
name_of (quoted_parameter n ∷ ps) = None

abbrev pub is_ordinary : Class → Bool
is_ordinary ordinary = true
is_ordinary _ = false

abbrev pub is_assignment : Class → Bool
is_assignment assignment = true
is_assignment _ = false
