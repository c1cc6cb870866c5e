use Rattle.std.proofs.Common.{◌≡◌, ◌++◌, ◌<◌, List, length}
use Rattle.std.specs.List.{AllByRecursion}
use Rattle.retro_rounds.specs.declared.attempt.Attempt.{Attempt}
use Rattle.retro_rounds.proofs.attempts.Attempts.pass_to.Given as goal

abbrev pub invariant-loop-passed : goal.invariant-loop-passed
invariant-loop-passed l =
    (gone : List Attempt) × (l.fn.self.queue.items ≡ gone ++ l.self.queue.items)
    × AllByRecursion (λ a. a.number < l.number) gone

abbrev pub decreases-loop-passed : goal.decreases-loop-passed
decreases-loop-passed l = length l.self.queue.items
