-- Why a use of a utility isn't understood: in interactive bash, with GNU's utilities, it may mean
-- something else than in Retro's shell.
use Rattle.std.specs.Prelude.{ℕ, ◌==◌, Bool, true, false, not, ◌&&◌, ◌||◌, List, [], ◌∷◌, drop, map}
use Rattle.std.specs.Prelude.{Option, Some, None, codes, is_some, if◌then◌else◌}
use Rattle.std.specs.List.{list_any, list_all}
use Rattle.retro_path.specs.Order.{text_eq}
use Rattle.retro_text.specs.Ascii.{dash}
use Rattle.retro_text.specs.Request.{RequestValue, has_letter, is_option, request_in}
use Rattle.retro_text.specs.declared.utility.Utility.{Utility}
use Rattle.retro_text.specs.declared.utility.Utility.TheVariants as utilities
use Rattle.casebook_usage.specs.Forms.{is_dash, is_form, letters_of, takes}
use Rattle.casebook_usage.specs.Shape.{ShapeValue, literal, operand, phrase, loose}
use Rattle.casebook_usage.specs.declared.obstacle.Obstacle.{Obstacle}
use Rattle.casebook_usage.specs.declared.obstacle.Obstacle.TheVariants.{Form, Terminal}

-- ---- `echo`

abbrev pub are_echo_letters : List ℕ → Bool
are_echo_letters letters = list_all (has_letter (codes "neE")) letters

-- whether bash's `echo` reads a first field as options: a dash, and letters of n, e and E
abbrev pub is_echo_option : List ℕ → Bool
is_echo_option (b ∷ c ∷ more) = (b == dash) && are_echo_letters (c ∷ more)
is_echo_option _ = false

-- whether the first field of a word may be such options
abbrev pub may_be_echo_option : ShapeValue → Bool
may_be_echo_option (literal text) = is_echo_option text
may_be_echo_option operand = false
may_be_echo_option phrase = false
may_be_echo_option loose = true

abbrev pub begins_with_echo_option : List ShapeValue → Bool
begins_with_echo_option [] = false
begins_with_echo_option (word ∷ words) = may_be_echo_option word

-- whether a word is `-n`, the one option of `echo` in Retro's shell
abbrev pub is_no_newline : ShapeValue → Bool
is_no_newline (literal text) = text_eq text (codes "-n")
is_no_newline _ = false

-- whether bash's `echo` may read another option than a first `-n`
abbrev pub has_other_echo_option : List ShapeValue → Bool
has_other_echo_option [] = false
has_other_echo_option (word ∷ words) =
    if is_no_newline word then begins_with_echo_option words else may_be_echo_option word

-- ---- the other utilities, on a sample of the fields

-- whether a word becomes one field that is known or is an operand
abbrev pub is_one_field : ShapeValue → Bool
is_one_field (literal text) = true
is_one_field operand = true
is_one_field _ = false

-- a field that a word may become
abbrev pub sample : ShapeValue → List ℕ
sample (literal text) = text
sample _ = codes "x"

-- the fields before the first word of unknown text
abbrev pub known_front : List ShapeValue → List (List ℕ)
known_front [] = []
known_front (literal text ∷ words) = text ∷ known_front words
known_front (_ ∷ words) = []

-- whether no word of unknown text is the argument of an option: the fields before it are options
-- with their arguments, and maybe operands
abbrev pub has_own_arguments : Utility → List ShapeValue → Bool
has_own_arguments u words = is_some (request_in (letters_of u) (known_front words))

-- whether standard input is read, as one of the files or as none is given
abbrev pub reads_as_file : List (List ℕ) → Bool
reads_as_file [] = true
reads_as_file (file ∷ files) = list_any is_dash (file ∷ files)

-- whether the utility reads standard input
abbrev pub reads_input : Utility → RequestValue → Bool
reads_input utilities.Cat r = reads_as_file r.operands
reads_input utilities.Cut r = reads_as_file r.operands
reads_input utilities.Grep r = reads_as_file (drop 1 r.operands)
reads_input utilities.Tee r = true
reads_input _ r = false

-- GNU's utilities take options after operands, and Retro's shell doesn't.
abbrev pub request_obstacle : Utility → Bool → Option RequestValue → Option Obstacle
request_obstacle u has_input None = Some Form
request_obstacle u has_input (Some r) =
    if list_any is_option r.operands || not (is_form u r) then Some Form
    else if reads_input u r && not has_input then Some Terminal
    else None

-- ---- all utilities

abbrev pub form_unless : Bool → Option Obstacle
form_unless is_understood = if is_understood then None else Some Form

-- whether each word becomes one field, and the utility takes a sample of them
abbrev pub takes_sample : Utility → List ShapeValue → Bool
takes_sample u words = list_all is_one_field words && takes u (map sample words)

abbrev pub option_use_obstacle : Utility → Bool → List ShapeValue → Option Obstacle
option_use_obstacle u has_input words =
    if list_all is_one_field words && has_own_arguments u words
    then request_obstacle u has_input (request_in (letters_of u) (map sample words))
    else Some Form

-- why a use of a utility isn't understood, or None if it is; has_input says whether standard input
-- is a pipe or a file, and not the terminal
unfoldable pub use_obstacle : Utility → Bool → List ShapeValue → Option Obstacle
use_obstacle utilities.True has_input words = None
use_obstacle utilities.False has_input words = None
use_obstacle utilities.Colon has_input words = None
use_obstacle utilities.Echo has_input words = form_unless (not (has_other_echo_option words))
use_obstacle utilities.Test has_input words = form_unless (takes_sample utilities.Test words)
use_obstacle utilities.Bracket has_input words = form_unless (takes_sample utilities.Bracket words)
use_obstacle u has_input words = option_use_obstacle u has_input words
