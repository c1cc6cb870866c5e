-- `cut` of operands (XCU cut).
use Rattle.std.specs.Prelude.{ℕ, List, [], ◌∷◌, Result, Ok, Err, codes}
use Rattle.retro_text.specs.Cut.{cut_text}
use Rattle.retro_text.specs.declared.cut.Cut.{Cut}
use Rattle.retro_tree.specs.declared.state.State.{State}
use Rattle.retro_utils.specs.Outcomes.{nothing_done, with_reading}
use Rattle.retro_utils.specs.Reading.{sources, or_dash}
use Rattle.retro_utils.specs.declared.done.Done.{Done}
use Rattle.retro_utils.specs.declared.input.Input.{Input}
use Rattle.retro_utils.specs.declared.reason.Reason.{Reason}

-- what is left of the bytes that were read, or the reason why there are none
abbrev pub cut_reading : Cut → Result (List ℕ) Reason → Result (List ℕ) Reason
cut_reading how (Ok bytes) = Ok (cut_text how bytes)
cut_reading how (Err reason) = Err reason

-- what is left of each source in turn, or the fault on it
abbrev pub cut_sources : Cut → List (List ℕ × Result (List ℕ) Reason) → Done → Done
cut_sources how [] done = done
cut_sources how ((operand, reading) ∷ more) done =
    cut_sources how more (with_reading (codes "cut") operand (cut_reading how reading) done)

unfoldable pub cut : ℕ → Cut → List (List ℕ) → Input → State → State × Done
cut sid how operands input s =
    (s, cut_sources how (sources sid (or_dash operands) input s) (nothing_done 0))
