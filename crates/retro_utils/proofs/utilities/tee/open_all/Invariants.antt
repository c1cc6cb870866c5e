-- The operands so far are opened, and the others are still to open.
use Rattle.std.specs.Prelude.{string_bytes}
use Rattle.std.proofs.Common.{map, drop, []}
use Rattle.retro_local.specs.Runs.{Continues, Extends}
use Rattle.retro_utils.specs.Outcomes.{nothing_done}
use Rattle.retro_utils.specs.Tee.{files_view, open_all}
use Rattle.retro_utils.proofs.utilities.tee.open_all.Given as goal

abbrev pub invariant-loop-operand : goal.invariant-loop-operand
invariant-loop-operand g l = record {
  extends : Extends l.sid l.initial.local l.local;
  continues : Continues l.initial.local l.local
      (open_all l.sid l.tee.mode (map string_bytes l.tee.operands.now) ([], nothing_done 0))
      (open_all l.sid l.tee.mode (map string_bytes (drop l.operand-index l.tee.operands.now)) (files_view l.opened));
}
