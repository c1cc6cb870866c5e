use Rattle.std.proofs.Common.{◌≡◌, All, ℕ}
use Rattle.std.specs.Vec.Iter.{into_iter_items}
use Rattle.retro_redo.specs.Ground.{GroundValue, edit_lent}
use Rattle.retro_rounds.specs.inner.Attempts.{IsAttempt, numbers_of}
use Rattle.retro_rounds.specs.inner.Workers.{AreOf, AreOn, HasGuesses}
use Rattle.retro_rounds.proofs.guesses.end_round.Given as goal

abbrev pub invariant-loop-worker : goal.invariant-loop-worker
invariant-loop-worker l =
    (goal.iterator-loop-worker).can_next l.worker-iterator × (goal.iterator-loop-worker).is_finite l.worker-iterator
    × ((b : ℕ × ℕ) × AreOn b (into_iter_items l.worker-iterator) × AreOf b l.owner l.thieves.items)
    × (numbers_of l.attempts ≡ numbers_of l.initial.attempts)
    × ((g : GroundValue) → All (HasGuesses g) (into_iter_items l.initial.worker-iterator)
    → All (HasGuesses g) (into_iter_items l.worker-iterator))
    × ((g : GroundValue) → All (HasGuesses g) (into_iter_items l.initial.worker-iterator)
    → All (IsAttempt (edit_lent g) g.recording) l.initial.attempts
    → All (IsAttempt (edit_lent g) g.recording) l.attempts)
