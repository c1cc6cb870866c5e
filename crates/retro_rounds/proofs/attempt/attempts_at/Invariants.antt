use Rattle.std.proofs.Common.{◌≡◌, All, take}
use Rattle.std.specs.Prelude.{None}
use Rattle.retro_rounds.specs.inner.Attempts.{numbers_of}
use Rattle.retro_rounds.proofs.attempt.attempts_at.Given as goal

abbrev pub invariant-loop-job : goal.invariant-loop-job
invariant-loop-job l =
    (numbers_of l.attempts.items ≡ take l.job-index l.jobs) × All (λ a. a.run ≡ None) l.attempts.items
