use Rattle.std.proofs.Common.{◌≡◌, length}
use Rattle.casebook_folder.specs.inner.Order.{rises}
use Rattle.casebook_folder.proofs.order.rises.Given as goal

abbrev pub invariant-loop-rest : goal.invariant-loop-rest
invariant-loop-rest l = rises l.rest ≡ rises l.rows

abbrev pub decreases-loop-rest : goal.decreases-loop-rest
decreases-loop-rest l = length l.rest
