-- `cat` (XCU cat).
use Rattle.std.specs.Prelude.{ℕ, List, [], ◌∷◌, Result, codes}
use Rattle.retro_tree.specs.declared.state.State.{State}
use Rattle.retro_utils.specs.Outcomes.{nothing_done, with_reading}
use Rattle.retro_utils.specs.Reading.{sources, or_dash}
use Rattle.retro_utils.specs.declared.done.Done.{Done}
use Rattle.retro_utils.specs.declared.input.Input.{Input}
use Rattle.retro_utils.specs.declared.reason.Reason.{Reason}

-- the bytes of each source in turn, or the fault on it
abbrev pub concatenated : List (List ℕ × Result (List ℕ) Reason) → Done → Done
concatenated [] done = done
concatenated ((operand, reading) ∷ more) done =
    concatenated more (with_reading (codes "cat") operand reading done)

unfoldable pub cat : ℕ → List (List ℕ) → Input → State → State × Done
cat sid operands input s = (s, concatenated (sources sid (or_dash operands) input s) (nothing_done 0))
