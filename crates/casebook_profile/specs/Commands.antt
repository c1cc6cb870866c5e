-- Why simple commands aren't understood.
use Rattle.std.specs.Prelude.{Bool, true, false, not, ◌&&◌, ◌||◌, List, [], ◌∷◌, Option, Some, None, map}
use Rattle.std.specs.Prelude.{if◌then◌else◌}
use Rattle.std.specs.List.{filter_map, list_all, list_any}
use Rattle.retro_text.specs.Utility.{utility_named}
use Rattle.retro_text.specs.declared.utility.Utility.{Utility}
use Rattle.retro_syntax.specs.declared.tree.Direction.TheVariants.{From, Onto, Append}
use Rattle.retro_syntax.specs.Tree.{plain, quoted, parameter, quoted_parameter, Word, Item, argument, redirect}
use Rattle.retro_syntax.specs.Tree.{Assignment, Simple, assignments, command}
use Rattle.retro_shell.specs.Expansion.{arguments}
use Rattle.casebook_usage.specs.Obstacles.{use_obstacle}
use Rattle.casebook_usage.specs.declared.obstacle.Obstacle.{Obstacle}
use Rattle.casebook_usage.specs.declared.obstacle.Obstacle.TheVariants as obstacles
use Rattle.casebook_profile.specs.Scope.{Scope, is_loop, with_set}
use Rattle.casebook_profile.specs.Variables.{is_special}
use Rattle.casebook_profile.specs.Words.{is_clear, is_clear_value, shape_of}

-- the first obstacle of two parts of a line
abbrev pub first_of : Option Obstacle → Option Obstacle → Option Obstacle
first_of None rest = rest
first_of (Some obstacle) rest = Some obstacle

-- an expansion, unless a test holds
abbrev pub unless_clear : Bool → Option Obstacle
unless_clear true = None
unless_clear false = Some obstacles.Expansion

-- ---- assignments

abbrev pub assignment_obstacle : Scope → Assignment → Option Obstacle
assignment_obstacle scope a =
    if is_special a.name then Some obstacles.Form
    else unless_clear (not (is_loop scope a.name) && is_clear_value scope a.value)

-- from left to right; each sees those before it
abbrev pub assignments_obstacle : Scope → List Assignment → Option Obstacle
assignments_obstacle scope [] = None
assignments_obstacle scope (a ∷ more) =
    first_of (assignment_obstacle scope a) (assignments_obstacle (with_set (a.name ∷ []) scope) more)

-- ---- commands

abbrev pub is_input : Item → Bool
is_input (argument w) = false
is_input (redirect From w) = true
is_input (redirect Onto w) = false
is_input (redirect Append w) = false

abbrev pub target_word : Item → Option Word
target_word (argument w) = None
target_word (redirect d w) = Some w

-- the words of redirections
abbrev pub targets : List Item → List Word
targets items = filter_map target_word items

-- the utility that a word is literally: one unquoted piece
abbrev pub utility_of : Word → Option Utility
utility_of [] = None
utility_of (plain text ∷ []) = utility_named text
utility_of (plain text ∷ p ∷ ps) = None
utility_of (quoted text ∷ ps) = None
utility_of (parameter p ∷ ps) = None
utility_of (quoted_parameter p ∷ ps) = None

abbrev pub are_clear : Scope → List Word → Bool
are_clear scope ws = list_all (is_clear scope) ws

abbrev pub call_obstacle : Scope → Bool → Option Utility → List Word → Option Obstacle
call_obstacle scope has_input None operands = Some obstacles.Command
call_obstacle scope has_input (Some u) operands =
    first_of (unless_clear (are_clear scope operands))
    (use_obstacle u has_input (map (shape_of scope) operands))

-- Without words there are redirections alone.
abbrev pub words_obstacle : Scope → Bool → List Word → Option Obstacle
words_obstacle scope has_input [] = None
words_obstacle scope has_input (name ∷ operands) = call_obstacle scope has_input (utility_of name) operands

abbrev pub command_obstacle : Scope → Bool → List Item → Option Obstacle
command_obstacle scope is_piped items =
    first_of (words_obstacle scope (is_piped || list_any is_input items) (arguments items))
    (unless_clear (are_clear scope (targets items)))

-- The flag says whether standard input is a pipe, and not the terminal.
unfoldable pub simple_obstacle : Scope → Bool → Simple → Option Obstacle
simple_obstacle scope is_piped (assignments all) = assignments_obstacle scope all
simple_obstacle scope is_piped (command items) = command_obstacle scope is_piped items

-- The first command of a pipe has the terminal as its standard input, unless it reads a file.
abbrev pub stages_obstacle : Scope → Bool → List Simple → Option Obstacle
stages_obstacle scope has_input [] = None
stages_obstacle scope has_input (s ∷ ss) =
    first_of (simple_obstacle scope has_input s) (stages_obstacle scope true ss)
