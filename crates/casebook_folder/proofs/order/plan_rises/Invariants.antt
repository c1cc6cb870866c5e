use Rattle.std.proofs.Common.{◌≡◌, length, map}
use Rattle.casebook_folder.specs.Plans.{row_of}
use Rattle.casebook_folder.specs.inner.Order.{rises}
use Rattle.casebook_folder.proofs.order.plan_rises.Given as goal

abbrev pub invariant-loop-rest : goal.invariant-loop-rest
invariant-loop-rest l = rises (map row_of l.rest) ≡ rises (map row_of l.plan)

abbrev pub decreases-loop-rest : goal.decreases-loop-rest
decreases-loop-rest l = length l.rest
