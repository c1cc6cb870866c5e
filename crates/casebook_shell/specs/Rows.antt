-- The rows of what bash prints of its functions, aliases and options, and what they say.
use Rattle.std.specs.Prelude.{ℕ, ◌==◌, ◌||◌, Bool, false, List, [], ◌∷◌, codes}
use Rattle.std.specs.Prelude.{Option, Some, None, option_and_then, option_map, if◌then◌else◌}
use Rattle.std.specs.List.{list_all, list_any, slice_split}
use Rattle.std.specs.Option.{option_map_or, option_or}
use Rattle.retro_path.specs.Ascii.{newline}
use Rattle.retro_path.specs.Order.{text_eq}
use Rattle.casebook_shell.specs.Parts.{Cut, after, after_any, after_blanks, cut_at, is_blank}
use Rattle.casebook_needs.specs.Words.{tab}

-- the parts of a text between newlines
abbrev pub rows_of : List ℕ → List (List ℕ)
rows_of text = slice_split (λ b. b == newline) text

-- ---- functions, as `declare -f` prints them

-- whether a byte ends the name of a function: a blank, a quote, `=` or `(`
abbrev pub ends_name : ℕ → Bool
ends_name b = list_any (λ c. c == b) (tab ∷ codes " '\"=(")

-- whether a text is `()` with nothing but blanks round it
abbrev pub are_brackets : List ℕ → Bool
are_brackets text = option_map_or (list_all is_blank) (after (codes "()") (after_blanks text)) false

-- the name that brackets follow
abbrev pub before_brackets : Cut → Option (List ℕ)
before_brackets cut = if are_brackets cut.1 then Some cut.0 else None

-- The name of the function that a row begins to define: `NAME ()` or `function NAME ()`. Functions
-- within functions are indented.
unfoldable pub function_in : List ℕ → Option (List ℕ)
function_in row =
    option_and_then before_brackets
    (cut_at ends_name (after_any (codes "function ") (after_blanks row)))

-- ---- aliases, as `alias -p` prints them

-- '='
abbrev pub equals : ℕ
equals = 61

-- the name before a `=`
abbrev pub before_equals : List ℕ → Option (List ℕ)
before_equals text = option_map (λ cut. cut.0) (cut_at (λ b. b == equals) text)

-- The name of the alias of a row: `alias NAME=VALUE`, or `alias -- NAME=VALUE` if the name begins
-- with a dash.
unfoldable pub alias_in : List ℕ → Option (List ℕ)
alias_in row =
    option_and_then (λ text. before_equals (after_any (codes "-- ") text))
    (after (codes "alias ") row)

-- the name of a function or an alias in a row
abbrev pub name_in : List ℕ → Option (List ℕ)
name_in row = option_or (function_in row) (alias_in row)

-- ---- options, as `set +o` and `shopt -p` print them

-- options of `set` under which lines mean something else
abbrev pub is_set_option : List ℕ → Bool
is_set_option name = list_any (text_eq name)
    (codes "noclobber" ∷ codes "errexit" ∷ codes "nounset" ∷ codes "noexec" ∷ codes "pipefail"
    ∷ codes "physical" ∷ codes "keyword" ∷ codes "posix" ∷ codes "onecmd" ∷ [])

-- options of `shopt` under which lines mean something else
abbrev pub is_shopt_option : List ℕ → Bool
is_shopt_option name = list_any (text_eq name)
    (codes "xpg_echo" ∷ codes "cdable_vars" ∷ codes "cdspell" ∷ codes "lastpipe" ∷ [])

abbrev pub is_set_row : List ℕ → Bool
is_set_row row = option_map_or is_set_option (after (codes "set -o ") row) false

abbrev pub is_shopt_row : List ℕ → Bool
is_shopt_row row = option_map_or is_shopt_option (after (codes "shopt -s ") row) false

-- without this option what follows a `#` is no comment
abbrev pub is_comment_row : List ℕ → Bool
is_comment_row row = text_eq row (codes "shopt -u interactive_comments")

-- whether a row sets an option so that lines mean something else
unfoldable pub is_switch : List ℕ → Bool
is_switch row = is_set_row row || is_shopt_row row || is_comment_row row
