-- The files so far are written, and the others are still to write.
use Rattle.std.proofs.Common.{map, drop}
use Rattle.retro_local.specs.Runs.{Continues, ExtendsTree}
use Rattle.retro_utils.specs.Tee.{append_all}
use Rattle.retro_utils.proofs.utilities.tee.append_all.Given as goal

abbrev pub invariant-loop-operand : goal.invariant-loop-operand
invariant-loop-operand g l = record {
  extends : ExtendsTree l.initial.local l.local;
  continues : Continues l.initial.local l.local
      (append_all l.text (map (λ f. (f.0.now, f.1)) l.files) l.fn.done)
      (append_all l.text (map (λ f. (f.0.now, f.1)) (drop l.operand-index l.files)) l.done);
}
