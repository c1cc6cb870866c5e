-- What was found in the files so far is in `progress`, and the others are still to read.
use Rattle.std.proofs.Common.{◌≡◌, map, drop}
use Rattle.std.specs.Prelude.{string_bytes}
use Rattle.retro_tree.specs.declared.state.State.{State}
use Rattle.retro_local.specs.Runs.{Continues, Extends}
use Rattle.retro_utils.specs.Operands.{is_several}
use Rattle.retro_utils.specs.Searching.{search_done, search_sources, searched}
use Rattle.retro_utils.specs.Reading.{sources}
use Rattle.retro_utils.specs.declared.done.Done.{Done}
use Rattle.retro_utils.proofs.utilities.grep.search_files.Given as goal

abbrev pub invariant-loop-operand : goal.invariant-loop-operand
invariant-loop-operand g l = record {
  several : l.several ≡ is_several (map string_bytes l.files);
  sid : l.reader.sid ≡ l.fn.reader.sid;
  extends : Extends l.fn.reader.sid l.initial.local l.local;
  continues : Continues {X = State × Done} l.initial.local l.local
      (λ s. (
        s,
        searched l.search (map string_bytes l.files)
            (sources l.fn.reader.sid (map string_bytes l.files) l.fn.reader.input s),
      ))
      (λ s. (
        s,
        search_done l.search (search_sources l.search (is_several (map string_bytes l.files))
            (sources l.fn.reader.sid (map string_bytes (drop l.operand-index l.files)) l.reader.input s) l.progress),
      ));
}
