-- Tilde prefixes (XCU 2.6.1).
use Rattle.std.specs.Prelude.{ℕ, Bool, true, false, not, ◌&&◌, ◌||◌, ◌==◌, if◌then◌else◌, List, [], ◌∷◌, Option, Some}
use Rattle.std.specs.Prelude.{None}
use Rattle.retro_syntax.specs.Ascii as ascii
use Rattle.retro_syntax.specs.Tree.{plain, quoted, parameter, quoted_parameter, Word}
use Rattle.retro_syntax.specs.declared.tildes.TildePrefix as code

-- the login name after the `~`, and the rest of the word's first piece
pub record TildePrefix : Type 0 where
  pub login : List ℕ
  pub rest : List ℕ

abbrev pub tilde_prefix_view : code.TildePrefix → TildePrefix
tilde_prefix_view p = record { login = p.login.now; rest = p.rest.now }

-- A slash ends a login name, and in an assigned value a colon too.
abbrev pub ends_login : Bool → ℕ → Bool
ends_login in_value c = c == ascii.slash || (in_value && c == ascii.colon)

-- the text up to the first such character
abbrev pub login_of : Bool → List ℕ → List ℕ
login_of in_value [] = []
login_of in_value (c ∷ cs) = if ends_login in_value c then [] else c ∷ login_of in_value cs

-- the text from it on
abbrev pub after_login : Bool → List ℕ → List ℕ
after_login in_value [] = []
after_login in_value (c ∷ cs) = if ends_login in_value c then c ∷ cs else after_login in_value cs

abbrev pub is_empty : {A : Type 0} → List A → Bool
is_empty [] = true
is_empty (x ∷ xs) = false

-- the prefix, if it ends inside the piece or the piece is the word's only one
abbrev pub if_ends : Bool → List ℕ → List ℕ → Option TildePrefix
if_ends is_only login rest =
    if is_only || not (is_empty rest) then Some (record { login = login; rest = rest }) else None

abbrev pub prefix_of : Bool → Bool → List ℕ → Option TildePrefix
prefix_of in_value is_only [] = None
prefix_of in_value is_only (c ∷ cs) =
    if c == ascii.tilde then if_ends is_only (login_of in_value cs) (after_login in_value cs)
    else None

-- An unquoted `~` at the word's start and the unquoted text up to the first slash (in an assigned
-- value a slash or colon), or up to the word's end.
abbrev pub tilde_prefix : Bool → Word → Option TildePrefix
tilde_prefix in_value [] = None
tilde_prefix in_value (plain text ∷ ps) = prefix_of in_value (is_empty ps) text
tilde_prefix in_value (quoted text ∷ ps) = None
tilde_prefix in_value (parameter n ∷ ps) = None
tilde_prefix in_value (quoted_parameter n ∷ ps) = None
