-- The notes so far make no change.
use Rattle.std.proofs.Common.{◌≡◌, length}
use Rattle.casebook_cause.specs.LineResult.{changes_in}
use Rattle.casebook_cause.proofs.another_result.split_change.Given as goal

abbrev pub invariant-loop-rest : goal.invariant-loop-rest
invariant-loop-rest l = changes_in l.notes ≡ changes_in l.rest

abbrev pub decreases-loop-rest : goal.decreases-loop-rest
decreases-loop-rest l = length l.rest
