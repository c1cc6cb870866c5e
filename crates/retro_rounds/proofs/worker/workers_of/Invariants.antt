use Rattle.std.proofs.Common.{◌≡◌, All, [], vec_len}
use Rattle.retro_rounds.specs.inner.Workers.{AreOn, board_of}
use Rattle.retro_rounds.proofs.worker.workers_of.Given as goal

abbrev pub invariant-loop-thief : goal.invariant-loop-thief
invariant-loop-thief l =
    All (λ t. t.board ≡ board_of l.mine.seat) l.thieves.items × AreOn (board_of l.mine.seat) l.workers.items
    × All (λ w. w.guesses.items ≡ []) l.workers.items

abbrev pub decreases-loop-thief : goal.decreases-loop-thief
decreases-loop-thief l = vec_len l.thieves
