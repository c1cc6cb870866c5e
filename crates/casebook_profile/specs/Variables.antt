-- Variables to which a shell on a real machine gives a meaning of its own.
use Rattle.std.specs.Prelude.{ℕ, Bool, ◌||◌, List, [], ◌∷◌, codes}
use Rattle.std.specs.List.{list_any}
use Rattle.retro_path.specs.Order.{text_eq}

abbrev pub is_one_of : List (List ℕ) → List ℕ → Bool
is_one_of texts text = list_any (text_eq text) texts

-- variables whose value the shell changes by itself
abbrev pub changing : List (List ℕ)
changing =
    codes "_" ∷ codes "BASHPID" ∷ codes "BASH_ARGV0" ∷ codes "BASH_COMMAND" ∷ codes "BASH_SUBSHELL"
    ∷ codes "COLUMNS" ∷ codes "DIRSTACK" ∷ codes "EPOCHREALTIME" ∷ codes "EPOCHSECONDS" ∷ codes "FUNCNAME"
    ∷ codes "GROUPS" ∷ codes "HISTCMD" ∷ codes "LINENO" ∷ codes "LINES" ∷ codes "PIPESTATUS"
    ∷ codes "RANDOM" ∷ codes "SECONDS" ∷ codes "SRANDOM" ∷ []

-- Whether nobody but the shell knows the value of a variable.
unfoldable pub is_changing : List ℕ → Bool
is_changing name = is_one_of changing name

-- other variables whose change changes how the shell itself works, or fails
abbrev pub ruling : List (List ℕ)
ruling =
    codes "BASHOPTS" ∷ codes "BASH_COMPAT" ∷ codes "BASH_ENV" ∷ codes "BASH_VERSINFO" ∷ codes "BASH_XTRACEFD"
    ∷ codes "ENV" ∷ codes "EUID" ∷ codes "EXECIGNORE" ∷ codes "GLOBIGNORE" ∷ codes "LANG"
    ∷ codes "LC_ALL" ∷ codes "LC_COLLATE" ∷ codes "LC_CTYPE" ∷ codes "LC_MESSAGES" ∷ codes "PATH"
    ∷ codes "POSIXLY_CORRECT" ∷ codes "PPID" ∷ codes "PROMPT_COMMAND" ∷ codes "PS0" ∷ codes "PS1"
    ∷ codes "PS2" ∷ codes "PS4" ∷ codes "SHELLOPTS" ∷ codes "TMOUT" ∷ codes "UID" ∷ codes "histchars" ∷ []

-- whether a line may not set a variable if it is to mean the same to both shells
unfoldable pub is_special : List ℕ → Bool
is_special name = is_one_of changing name || is_one_of ruling name
