-- The names of variables that a line can assign (POSIX.1-2017 XBD 3.235, Name).
use Rattle.std.specs.Prelude.{ℕ, ◌==◌, Bool, false, not, ◌&&◌, ◌||◌, List, [], ◌∷◌, Option, Some, None}
use Rattle.std.specs.Prelude.{if◌then◌else◌, codes}
use Rattle.std.specs.List.{list_any, list_all}
use Rattle.std.specs.Char.{is_ascii_alphabetic, is_ascii_alphanumeric}
use Rattle.retro_path.specs.Ascii.{underscore}
use Rattle.retro_path.specs.Order.{text_eq}

-- a letter or an underscore
abbrev pub starts_name : ℕ → Bool
starts_name b = is_ascii_alphabetic b || b == underscore

-- a letter, a digit or an underscore
abbrev pub continues_name : ℕ → Bool
continues_name b = is_ascii_alphanumeric b || b == underscore

-- a name in the shell's grammar: letters, digits and underscores, and the first isn't a digit
unfoldable pub is_shell_name : List ℕ → Bool
is_shell_name [] = false
is_shell_name (b ∷ bs) = starts_name b && list_all continues_name bs

-- the names that no line can assign, because the shell keeps fields and directories elsewhere
abbrev pub barred_names : List (List ℕ)
barred_names = codes "IFS" ∷ codes "PWD" ∷ codes "OLDPWD" ∷ codes "CDPATH" ∷ []

-- the name of a variable that a line can assign
unfoldable pub is_var_name : List ℕ → Bool
is_var_name bs = is_shell_name bs && not (list_any (text_eq bs) barred_names)

-- a text as a name, or None where no line can assign it
abbrev pub var_name_of : List ℕ → Option (List ℕ)
var_name_of bs = if is_var_name bs then Some bs else None
