-- The sources so far are moved, and the others are still to move.
use Rattle.std.specs.Prelude.{string_bytes}
use Rattle.std.proofs.Common.{map, drop}
use Rattle.retro_local.specs.Runs.{Continues, Extends}
use Rattle.retro_utils.specs.Mv.{move_all}
use Rattle.retro_utils.specs.Outcomes.{nothing_done}
use Rattle.retro_utils.proofs.utilities.mv.move_all.Given as goal

abbrev pub invariant-loop-source : goal.invariant-loop-source
invariant-loop-source g l = record {
  extends : Extends l.sid l.initial.local l.local;
  continues : Continues l.initial.local l.local
      (move_all l.sid l.target l.last (map string_bytes l.sources) (nothing_done 0))
      (move_all l.sid l.target l.last (map string_bytes (drop l.source-index l.sources)) l.done);
}
