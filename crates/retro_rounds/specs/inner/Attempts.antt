-- Runs of lines ahead of their turns, as a repair keeps them until the lines' turns.
use Rattle.std.specs.Prelude.{◌≡◌, ◌<◌, ◌≤◌, ℕ, ◌++◌, List, [], ◌∷◌, length, map, Option, Some, None}
use Rattle.std.specs.List.{AllByRecursion}
use Rattle.retro_keep.specs.Recording.{RecordingValue, noted_at}
use Rattle.retro_keep.specs.declared.edit.Edit.{Edit}
use Rattle.retro_keep.specs.declared.noted.Noted.{Noted}
use Rattle.retro_redo.specs.Settling.{IsGuessOf}
use Rattle.retro_pool.specs.declared.guess.Guess.{Guess}
use Rattle.retro_rounds.specs.declared.attempt.Attempt.{Attempt}

-- a new run of the line that has the attempt's number, or none
abbrev pub IsAttempt : (ℕ → Option Edit) → RecordingValue → Attempt → Type 0
IsAttempt edit r a =
    (noted : Noted) → noted_at a.number r.lines ≡ Some noted → IsGuessOf edit (a.number, noted) a.run

abbrev pub number_of : Attempt → ℕ
number_of a = a.number

-- the lines that were attempted
abbrev pub numbers_of : List Attempt → List ℕ
numbers_of attempts = map number_of attempts

-- a guess is a new run of the line that has its number
abbrev pub IsGuessIn : (ℕ → Option Edit) → RecordingValue → Guess → Type 0
IsGuessIn edit r guess = IsAttempt edit r (record { number = guess.number; run = Some guess.run })

-- the first attempt is of another line than the one with a number
abbrev pub IsOther : ℕ → List Attempt → Type 0
IsOther n [] = Unit {0}
IsOther n (a ∷ attempts) = ¬ (a.number ≡ n)

-- the attempt at the line with a number was taken, or there is none
abbrev pub IsTaken : ℕ → List Attempt → List Attempt → Option Attempt → Type 0
IsTaken n old new None = (new ≡ old) × IsOther n old
IsTaken n old new (Some a) = (old ≡ a ∷ new) × (a.number ≡ n)

-- the first attempt is of the line with a number or of a later one
abbrev pub IsFrom : ℕ → List Attempt → Type 0
IsFrom n [] = Unit {0}
IsFrom n (a ∷ attempts) = n ≤ a.number

-- the first attempt was taken, which is at a line before the one with a number, or there is none
abbrev pub IsTakenBelow : ℕ → List Attempt → List Attempt → Option Attempt → Type 0
IsTakenBelow n old new None = (new ≡ old) × IsFrom n old
IsTakenBelow n old new (Some a) = (old ≡ a ∷ new) × (a.number < n)

-- The first attempts were dropped: those of the lines before the one with a number.
pub record ArePassed (n : ℕ) (old new : List Attempt) (count : ℕ) : Type 0 where
  pub gone : List Attempt
  pub split : old ≡ gone ++ new
  pub counted : count ≡ length gone
  pub below : AllByRecursion (λ a. a.number < n) gone
  pub from : IsFrom n new
