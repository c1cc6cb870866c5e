use Rattle.std.proofs.Common.{◌≡◌, vec_len}
use Rattle.retro_rounds.proofs.guesses.deal_all.Given as goal

abbrev pub invariant-loop-job : goal.invariant-loop-job
invariant-loop-job l = l.owner.board ≡ l.initial.owner.board

abbrev pub decreases-loop-job : goal.decreases-loop-job
decreases-loop-job l = vec_len l.jobs
