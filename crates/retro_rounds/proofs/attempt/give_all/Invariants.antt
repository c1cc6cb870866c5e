use Rattle.std.proofs.Common.{◌≡◌, ℕ, All, Option}
use Rattle.std.specs.Vec.Iter.{into_iter_items}
use Rattle.retro_keep.specs.Recording.{RecordingValue}
use Rattle.retro_keep.specs.declared.edit.Edit.{Edit}
use Rattle.retro_rounds.specs.inner.Attempts.{IsAttempt, IsGuessIn, numbers_of}
use Rattle.retro_rounds.proofs.attempt.give_all.Given as goal

abbrev pub invariant-loop-guess : goal.invariant-loop-guess
invariant-loop-guess l =
    (goal.iterator-loop-guess).can_next l.guess-iterator × (goal.iterator-loop-guess).is_finite l.guess-iterator
    × (numbers_of l.attempts ≡ numbers_of l.initial.attempts)
    × ((edit : ℕ → Option Edit) → (r : RecordingValue)
    → All (IsGuessIn edit r) (into_iter_items l.initial.guess-iterator)
    → All (IsGuessIn edit r) (into_iter_items l.guess-iterator))
    × ((edit : ℕ → Option Edit) → (r : RecordingValue)
    → All (IsGuessIn edit r) (into_iter_items l.initial.guess-iterator) → All (IsAttempt edit r) l.initial.attempts
    → All (IsAttempt edit r) l.attempts)
