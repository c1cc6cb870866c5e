-- The results of utilities: output, diagnostics and a status.
use Rattle.std.specs.Prelude.{ℕ, List, [], ◌++◌, Option, Some, None, Result, Ok, Err}
use Rattle.retro_text.specs.Output.{usage_text}
use Rattle.retro_tree.specs.declared.state.State.{State}
use Rattle.retro_utils.specs.Reasons.{fault_text}
use Rattle.retro_utils.specs.declared.done.Done.{Done}
use Rattle.retro_utils.specs.declared.reason.Reason.{Reason}

-- no output, no diagnostics, and this status
abbrev pub nothing_done : ℕ → Done
nothing_done status = record { out = []; err = []; status = status }

-- output alone, with status 0
abbrev pub output : List ℕ → Done
output bytes = record { out = bytes; err = []; status = 0 }

-- a diagnostic alone, with status 1
abbrev pub complaint : List ℕ → Done
complaint text = record { out = []; err = text; status = 1 }

-- the result of a use outside a utility's forms: `NAME: usage` and status 2
abbrev pub usage : List ℕ → Done
usage name = record { out = []; err = usage_text name; status = 2 }

-- a step with what was read of the fields, or a usage fault if they aren't a form of the synopsis
abbrev pub or_usage : {X : Type 0} → List ℕ → Option X → (X → State → State × Done) → State → State × Done
or_usage name None step s = (s, usage name)
or_usage name (Some x) step s = step x s

-- more output
abbrev pub with_output : List ℕ → Done → Done
with_output bytes done = record done { out = done.out ++ bytes }

-- the diagnostic of a fault on an operand, with status 1
abbrev pub with_fault : List ℕ → List ℕ → Reason → Done → Done
with_fault name operand reason done =
    record done { err = done.err ++ fault_text name operand reason; status = 1 }

-- the diagnostic of a step, if it failed
abbrev pub with_outcome : List ℕ → List ℕ → Result (Unit {0}) Reason → Done → Done
with_outcome name operand (Ok done_well) done = done
with_outcome name operand (Err reason) done = with_fault name operand reason done

-- the bytes that an operand gives as output, or the fault on it
abbrev pub with_reading : List ℕ → List ℕ → Result (List ℕ) Reason → Done → Done
with_reading name operand (Ok bytes) done = with_output bytes done
with_reading name operand (Err reason) done = with_fault name operand reason done

-- a change of the state, unless there is a reason against it
abbrev pub made_unless : Option Reason → (State → State) → State → State × Result (Unit {0}) Reason
made_unless None change s = (change s, Ok tt)
made_unless (Some reason) change s = (s, Err reason)
