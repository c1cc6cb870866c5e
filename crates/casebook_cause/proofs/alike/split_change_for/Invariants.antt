-- The notes so far change none of the cells.
use Rattle.std.proofs.Common.{◌≡◌, length}
use Rattle.casebook_cause.specs.Cause.{changes_for}
use Rattle.casebook_cause.proofs.alike.split_change_for.Given as goal

abbrev pub invariant-loop-rest : goal.invariant-loop-rest
invariant-loop-rest l = changes_for l.ask l.notes ≡ changes_for l.ask l.rest

abbrev pub decreases-loop-rest : goal.decreases-loop-rest
decreases-loop-rest l = length l.rest
