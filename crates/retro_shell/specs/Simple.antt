-- Simple commands (XCU 2.9.1): assignments, or words and redirections.
use Rattle.std.specs.Prelude.{ℕ, true, nat_le, if◌then◌else◌, List, [], ◌∷◌, ◌++◌, length, codes}
use Rattle.std.specs.Prelude.{Option, Some, None, Result, Ok, Err}
use Rattle.retro_tree.specs.Change.{put_var}
use Rattle.retro_tree.specs.Session.{value_limit}
use Rattle.retro_tree.specs.declared.state.State.{State}
use Rattle.retro_syntax.specs.Tree.{Assignment, Item, Simple, assignments, command}
use Rattle.retro_utils.specs.Outcomes.{nothing_done}
use Rattle.retro_utils.specs.Utility.{utility}
use Rattle.retro_utils.specs.declared.done.Done.{Done}
use Rattle.retro_utils.specs.declared.input.Input.{Input}
use Rattle.retro_utils.specs.declared.place.Place.{Place}
use Rattle.retro_shell.specs.Expansion.{arguments, fields, single}
use Rattle.retro_shell.specs.Fields.{fields_fit}
use Rattle.retro_shell.specs.Outcomes.{refusal}
use Rattle.retro_shell.specs.Redirections.{delivery, redirections}
use Rattle.retro_shell.specs.declared.context.Context.{Context}
use Rattle.retro_shell.specs.declared.streams.Streams.{Streams}
use Rattle.retro_shell.specs.declared.target.Target.{Target}
use Rattle.retro_shell.specs.declared.target.Target.TheVariants.{Standard}

-- ---- assignments

-- In a subshell nothing is set (XCU 2.12).
abbrev pub assigned_in : Place → List ℕ → List ℕ → State → State
assigned_in place name value s = if place.sub then s else put_var place.sid name value s

-- A value over the limit ends the command.
abbrev pub then_assign : Place → List ℕ → List ℕ → (State → State × Done) → State → State × Done
then_assign place name value rest s =
    if nat_le (length value) value_limit then rest (assigned_in place name value s)
    else (s, refusal (codes "value too long") 1)

-- From left to right. Each value is expanded in the state that the assignments before it left
-- (own).
abbrev pub assign : Context → List Assignment → State → State × Done
assign context [] s = (s, nothing_done 0)
assign context (a ∷ rest) s =
    then_assign context.place a.name (single context s true a.value) (assign context rest) s

-- ---- commands

abbrev pub or_not_found : List ℕ → State × Option Done → State × Done
or_not_found name (s, Some done) = (s, done)
or_not_found name (s, None) = (s, refusal (name ++ codes ": not found") 127)

-- the utility that the first field names, on the other fields; without fields nothing is done
unfoldable pub call : Place → List (List ℕ) → Input → State → State × Done
call place [] input s = (s, nothing_done 0)
call place (name ∷ operands) input s = or_not_found name (utility name operands input place s)

abbrev pub then_delivered : Target → State × Done → State × Done
then_delivered target (s, done) = delivery target done s

-- the call and the delivery of its output after the redirections, or the diagnostic of the one that
-- failed
abbrev pub execution : Place → List (List ℕ) → State × Result Streams Done → State × Done
execution place fs (s, Ok io) = then_delivered io.output (call place fs io.input s)
execution place fs (s, Err failed) = (s, failed)

abbrev pub command_of : Context → List (List ℕ) → List Item → Input → State → State × Done
command_of context fs items input s =
    if fields_fit fs
    then execution context.place fs (redirections context items (record { input = input; output = Standard }) s)
    else (s, refusal (codes "argument list too long") 126)

-- A simple command with its input. The words are expanded first, then the redirections are made,
-- and then the utility runs. Its output is what isn't redirected.
unfoldable pub simple : Context → Simple → Input → State → State × Done
simple context (assignments all) input s = assign context all s
simple context (command items) input s =
    command_of context (fields context s (arguments items)) items input s
