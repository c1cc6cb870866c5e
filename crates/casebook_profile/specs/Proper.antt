-- Lines all of whose commands are proper calls: each names a utility of the shell, and none is a
-- usage fault. Each command is taken with the state in which it runs.
use Rattle.std.specs.Prelude.{◌≡◌, ◌≢◌, ◌==◌, ℕ, Bool, true, false, List, [], ◌∷◌, Option, Some, None, IfSome, not}
use Rattle.std.specs.List.{list_any}
use Rattle.retro_text.specs.Utility.{name_of, utility_named}
use Rattle.retro_text.specs.declared.utility.Utility.{Utility}
use Rattle.retro_tree.specs.Change.{put_var}
use Rattle.retro_tree.specs.declared.state.State.{State}
use Rattle.retro_syntax.specs.Ascii as ascii
use Rattle.retro_syntax.specs.Tree.{Simple, assignments, command, Commands, last, more, AndOr, end, chain}
use Rattle.retro_syntax.specs.Tree.{Pipeline, pipeline, Command, simples, conditional, loop, Arms, fi, otherwise, elif}
use Rattle.retro_utils.specs.Outcomes.{nothing_done, usage}
use Rattle.retro_utils.specs.Utility.{meaning}
use Rattle.retro_utils.specs.declared.done.Done.{Done}
use Rattle.retro_utils.specs.declared.input.Input.{Input}
use Rattle.retro_utils.specs.declared.input.Input.TheVariants.{Bytes}
use Rattle.retro_utils.specs.declared.place.Place.{Place}
use Rattle.retro_shell.specs.Commands.{Step, context_of, goes_on, is_several, nothing_run, run_and_or, run_commands}
use Rattle.retro_shell.specs.Commands.{run_if, run_pipeline, status_of, succeeded}
use Rattle.retro_shell.specs.Expansion.{arguments, fields, home, parameter_value}
use Rattle.retro_shell.specs.Simple.{simple}
use Rattle.retro_keep.specs.Recording.{RecordingValue}
use Rattle.casebook_profile.specs.Characters.{begins_with}
use Rattle.casebook_profile.specs.UnknownLines.{unknown_lines_of}

-- ---- types of the shell, which doesn't export their names

-- the type of a function's argument
abbrev pub ArgumentOf : {A B : Type 0} → (A → B) → Type 0
ArgumentOf {A} f = A

-- what a line has printed so far, and its last status
abbrev pub Progress : Type 0
Progress = ArgumentOf status_of

-- what the words of a command depend on beside the state: its place and the last status
abbrev pub Context : Type 0
Context = ArgumentOf parameter_value

-- ---- simple commands

-- A call is proper if its first field names a utility that takes the other fields: with any input,
-- at any place and in any state, it doesn't leave the utility's usage fault.
abbrev pub IsProperCall : List (List ℕ) → Type 0
IsProperCall [] = Unit {0}
IsProperCall (name ∷ operands) =
    (u : Utility) × ((utility_named name ≡ Some u) × ((input : Input) (place : Place) (s : State)
    → (meaning u operands input place s).1 ≢ usage (name_of u)))

-- Each home directory that a tilde prefix may become begins with a slash.
abbrev pub HomesAreAbsolute : ℕ → State → Type 0
HomesAreAbsolute sid s = (login : List ℕ) → IfSome (home sid login s) (λ text. begins_with ascii.slash text ≡ true)

-- Assignments call nothing.
abbrev pub IsProperSimple : Context → Simple → State → Type 0
IsProperSimple context (assignments all) s = Unit {0}
IsProperSimple context (command items) s =
    HomesAreAbsolute context.place.sid s → IsProperCall (fields context s (arguments items))

-- ---- parts of a line

-- what is asked of a part, with the progress and the state before it
abbrev pub Demand : Type 1
Demand = Progress → State → Type 0

-- a demand on the part after another one
abbrev pub Then : State × Progress → Demand → Type 0
Then (s, x) demand = demand x s

-- a demand on a part that runs if a test holds
abbrev pub If : Bool → Demand → Demand
If true demand x s = demand x s
If false demand x s = Unit {0}

-- The commands of a pipe, from left to right, after a command that left `done`. The state is that
-- after it.
abbrev pub AreProperStages : Context → List Simple → State × Done → Type 0
AreProperStages context [] (s, done) = Unit {0}
AreProperStages context (c ∷ cs) (s, done) =
    IsProperSimple context c s × AreProperStages context cs (simple context c (Bytes done.out) s)

-- The body of a `for`, for each field as the variable's value. This asks more than needed: a field
-- over the limit of a value ends the loop, and fields over the limit of their size begin none.
abbrev pub AreProperTurns : ℕ → List ℕ → Step → Demand → List (List ℕ) → Demand
AreProperTurns sid name body demand [] x s = Unit {0}
AreProperTurns sid name body demand (f ∷ fs) x s =
    demand x (put_var sid name f s)
    × Then (body x (put_var sid name f s)) (AreProperTurns sid name body demand fs)

-- ---- the tree of a line

module _ (sid : ℕ) where
  abbrev mutual
    pub ProperCommands : Commands → Demand
    ProperCommands (last a closed) x s = ProperAndOr true a x s
    ProperCommands (more a c) x s =
        ProperAndOr true a x s × Then (run_and_or sid true a x s) (ProperCommands c)

    -- The flag says whether the first pipeline runs.
    pub ProperAndOr : Bool → AndOr → Demand
    ProperAndOr runs (end p) x s = If runs (ProperPipeline p) x s
    ProperAndOr runs (chain p op a) x s =
        If runs (ProperPipeline p) x s
        × Then (run_if runs (run_pipeline sid p) x s) (λ y. ProperAndOr (goes_on op y) a y)

    pub ProperPipeline : Pipeline → Demand
    ProperPipeline (pipeline bang c) x s = ProperCommand c x s

    pub ProperCommand : Command → Demand
    ProperCommand (simples cs) x s =
        AreProperStages (record { place = record { sid = sid; sub = is_several cs }; last = x.last }) cs
        (s, nothing_done 0)
    ProperCommand (conditional a) x s = ProperArms a x s
    ProperCommand (loop name ws c) x s =
        AreProperTurns sid name (run_commands sid c) (ProperCommands c) (fields (context_of sid x) s ws) x s

    -- a condition, and the branch that runs
    pub ProperArms : Arms → Demand
    ProperArms (fi c t) x s =
        ProperCommands c x s × Then (run_commands sid c x s) (λ y. If (succeeded y) (ProperCommands t) y)
    ProperArms (otherwise c t e) x s =
        ProperCommands c x s
        × Then (run_commands sid c x s)
        (λ y u. If (succeeded y) (ProperCommands t) y u × If (not (succeeded y)) (ProperCommands e) y u)
    ProperArms (elif c t a) x s =
        ProperCommands c x s
        × Then (run_commands sid c x s)
        (λ y u. If (succeeded y) (ProperCommands t) y u × If (not (succeeded y)) (ProperArms a) y u)

-- ---- lines

-- A text outside the grammar isn't proper, and a blank line is.
abbrev pub ProperLine : ℕ → Option (Option Commands) → State → Type 0
ProperLine sid None s = ⊥
ProperLine sid (Some None) s = Unit {0}
ProperLine sid (Some (Some c)) s = ProperCommands sid c nothing_run s

-- whether a line of a recording, by its number, isn't understood
abbrev pub is_unknown : RecordingValue → ℕ → Bool
is_unknown r number = list_any (λ line. line.number == number) (unknown_lines_of r)
