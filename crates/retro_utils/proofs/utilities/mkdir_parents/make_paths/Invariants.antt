-- The operands so far are done, and the others are still to do.
use Rattle.std.specs.Prelude.{string_bytes}
use Rattle.std.proofs.Common.{map, drop}
use Rattle.std.specs.Prelude.{codes}
use Rattle.retro_local.specs.Runs.{Continues, Extends}
use Rattle.retro_utils.specs.MkdirParents.{make_parents}
use Rattle.retro_utils.specs.Operands.{at_operand, in_turn}
use Rattle.retro_utils.specs.Outcomes.{nothing_done}
use Rattle.retro_utils.proofs.utilities.mkdir_parents.make_paths.Given as goal

abbrev pub invariant-loop-operand : goal.invariant-loop-operand
invariant-loop-operand g l = record {
  extends : Extends l.sid l.initial.local l.local;
  continues : Continues l.initial.local l.local
      (in_turn (codes "mkdir") (at_operand l.sid make_parents) (map string_bytes l.operands) (nothing_done 0))
      (in_turn (codes "mkdir") (at_operand l.sid make_parents) (map string_bytes (drop l.operand-index l.operands))
      l.done);
}
