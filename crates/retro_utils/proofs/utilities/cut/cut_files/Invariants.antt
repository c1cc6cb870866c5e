-- What is left of the files so far is in `done`, and the others are still to read.
use Rattle.std.proofs.Common.{◌≡◌, map, drop}
use Rattle.std.specs.Prelude.{string_bytes}
use Rattle.retro_tree.specs.declared.state.State.{State}
use Rattle.retro_local.specs.Runs.{Continues, Extends}
use Rattle.retro_utils.specs.Cutting.{cut_sources}
use Rattle.retro_utils.specs.Outcomes.{nothing_done}
use Rattle.retro_utils.specs.Reading.{sources}
use Rattle.retro_utils.specs.declared.done.Done.{Done}
use Rattle.retro_utils.proofs.utilities.cut.cut_files.Given as goal

abbrev pub invariant-loop-operand : goal.invariant-loop-operand
invariant-loop-operand g l = record {
  sid : l.reader.sid ≡ l.fn.reader.sid;
  extends : Extends l.fn.reader.sid l.initial.local l.local;
  continues : Continues {X = State × Done} l.initial.local l.local
      (λ s. (
        s,
        cut_sources l.how
            (sources l.fn.reader.sid (map string_bytes l.files) l.fn.reader.input s) (nothing_done 0),
      ))
      (λ s. (
        s,
        cut_sources l.how
            (sources l.fn.reader.sid (map string_bytes (drop l.operand-index l.files)) l.reader.input s) l.done,
      ));
}
