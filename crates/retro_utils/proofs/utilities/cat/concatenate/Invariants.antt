-- The sources so far are in `done`, and the others are still to read.
use Rattle.std.specs.Prelude.{string_bytes}
use Rattle.std.proofs.Common.{map, drop}
use Rattle.retro_tree.specs.declared.state.State.{State}
use Rattle.retro_local.specs.Runs.{Continues, Extends}
use Rattle.retro_utils.specs.Cat.{concatenated}
use Rattle.retro_utils.specs.Outcomes.{nothing_done}
use Rattle.retro_utils.specs.Reading.{sources}
use Rattle.retro_utils.specs.declared.done.Done.{Done}
use Rattle.retro_utils.proofs.utilities.cat.concatenate.Given as goal

abbrev pub invariant-loop-operand : goal.invariant-loop-operand
invariant-loop-operand g l = record {
  extends : Extends l.sid l.initial.local l.local;
  continues : Continues {X = State × Done} l.initial.local l.local
      (λ s. (s, concatenated (sources l.sid (map string_bytes l.operands) l.fn.input s) (nothing_done 0)))
      (λ s. (s, concatenated (sources l.sid (map string_bytes (drop l.operand-index l.operands)) l.input s) l.done));
}
