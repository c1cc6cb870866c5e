use Rattle.std.proofs.Common.{vec_len}
use Rattle.retro_pool.proofs.jobs.give_all_back.Given as goal

abbrev pub decreases-loop-job : goal.decreases-loop-job
decreases-loop-job l = vec_len l.jobs
