use Rattle.std.proofs.Common.{◌≡◌, ◌+◌, ◌*◌, length}
use Rattle.retro_syntax.specs.inner.Fits.{pipelines_fit, and_ors_fit, arms_fit}
use Rattle.retro_syntax.proofs.depth.+depth.Given as goal

abbrev pub invariant-and_ors_fit-loop-rest : goal.invariant-and_ors_fit-loop-rest
invariant-and_ors_fit-loop-rest l = and_ors_fit l.rest l.room ≡ and_ors_fit l.list l.room

abbrev pub decreases-and_ors_fit-loop-rest : goal.decreases-and_ors_fit-loop-rest
decreases-and_ors_fit-loop-rest l = length l.rest

abbrev pub invariant-arms_fit-loop-rest : goal.invariant-arms_fit-loop-rest
invariant-arms_fit-loop-rest l = arms_fit l.rest l.room ≡ arms_fit l.arms l.room

abbrev pub decreases-arms_fit-loop-rest : goal.decreases-arms_fit-loop-rest
decreases-arms_fit-loop-rest l = length l.rest

abbrev pub invariant-pipelines_fit-loop-rest : goal.invariant-pipelines_fit-loop-rest
invariant-pipelines_fit-loop-rest l = pipelines_fit l.rest l.room ≡ pipelines_fit l.pipelines l.room

abbrev pub decreases-pipelines_fit-loop-rest : goal.decreases-pipelines_fit-loop-rest
decreases-pipelines_fit-loop-rest l = length l.rest

abbrev pub decreases-command_fits : goal.decreases-command_fits
decreases-command_fits l = 8 * l.room

abbrev pub decreases-pipelines_fit : goal.decreases-pipelines_fit
decreases-pipelines_fit l = 8 * l.room + 1

abbrev pub decreases-and_or_fits : goal.decreases-and_or_fits
decreases-and_or_fits l = 8 * l.room + 2

abbrev pub decreases-and_ors_fit : goal.decreases-and_ors_fit
decreases-and_ors_fit l = 8 * l.room + 3

abbrev pub decreases-list_fits : goal.decreases-list_fits
decreases-list_fits l = 8 * l.room + 4

abbrev pub decreases-arms_fit : goal.decreases-arms_fit
decreases-arms_fit l = 8 * l.room + 5

abbrev pub decreases-conditional_fits : goal.decreases-conditional_fits
decreases-conditional_fits l = 8 * l.room + 6
