-- What operands name, and what is done at each of them in turn.
use Rattle.std.specs.Prelude.{ℕ, Bool, true, false, List, [], ◌∷◌, Result, Ok, Err, codes}
use Rattle.retro_tree.specs.Order.{text_eq}
use Rattle.retro_tree.specs.Path.{PathValue}
use Rattle.retro_tree.specs.Resolving.{Resolved, resolve}
use Rattle.retro_tree.specs.Resolving as resolved
use Rattle.retro_tree.specs.Session.{session_in}
use Rattle.retro_tree.specs.declared.state.State.{State}
use Rattle.retro_utils.specs.Outcomes.{with_outcome}
use Rattle.retro_utils.specs.declared.done.Done.{Done}
use Rattle.retro_utils.specs.declared.reason.Reason.{Reason}
use Rattle.retro_utils.specs.declared.reason.Reason.TheVariants.{NoSuchFile, NameTooLong}

abbrev pub path_by : Resolved → Result PathValue Reason
path_by (resolved.Is p) = Ok p
path_by resolved.Empty = Err NoSuchFile
path_by resolved.LongName = Err NameTooLong

-- the path that an operand names in a session, or the reason why it names none
unfoldable pub located : ℕ → List ℕ → State → Result PathValue Reason
located sid operand s = path_by (resolve (session_in sid s.sessions).cwd operand)

-- an operation at a path
abbrev pub Action : Type 0
Action = PathValue → State → State × Result (Unit {0}) Reason

abbrev pub at_path : Action → Result PathValue Reason → State → State × Result (Unit {0}) Reason
at_path act (Ok p) s = act p s
at_path act (Err reason) s = (s, Err reason)

-- an operation at the path that an operand names
abbrev pub at_operand : ℕ → Action → List ℕ → State → State × Result (Unit {0}) Reason
at_operand sid act operand s = at_path act (located sid operand s) s

abbrev pub after_outcome : List ℕ → List ℕ → Done → State × Result (Unit {0}) Reason → State × Done
after_outcome name operand done (s, outcome) = (s, with_outcome name operand outcome done)

abbrev pub then_done : State × Done → (Done → State → State × Done) → State × Done
then_done (s, done) rest = rest done s

-- a step for each operand in turn, with the faults of the utility with this name
abbrev pub in_turn : List ℕ → (List ℕ → State → State × Result (Unit {0}) Reason) → List (List ℕ) → Done
    → State → State × Done
in_turn name step [] done s = (s, done)
in_turn name step (x ∷ xs) done s = then_done (after_outcome name x done (step x s)) (in_turn name step xs)

-- `-` names standard input
abbrev pub is_dash : List ℕ → Bool
is_dash operand = text_eq operand (codes "-")

-- two or more
abbrev pub is_several : List (List ℕ) → Bool
is_several [] = false
is_several (x ∷ []) = false
is_several (x ∷ y ∷ more) = true
