-- What a thread does that takes jobs from a seat and runs them.
use Rattle.std.specs.Prelude.{◌≡◌, ◌+◌, ◌≤◌, ℕ, List, ◌++◌, length, map}
use Rattle.std.specs.List.{AllByRecursion}
use Rattle.retro_redo.specs.Ground.{GroundValue}
use Rattle.retro_pool.specs.Guesses.{IsGuess}
use Rattle.retro_pool.specs.Turns.{IsSublist}
use Rattle.retro_pool.specs.declared.guess.Guess.{Guess}

-- the number of a guess's line
abbrev pub number_of : Guess → ℕ
number_of guess = guess.number

-- At most `room` jobs were taken from a seat, and the guesses of those that gave one were appended,
-- in the order of taking. The other jobs, which gave none, are `without` many.
pub record HasWorked (g : GroundValue) (room : ℕ) (taken_old taken_new : List ℕ)
    (guesses_old guesses_new : List Guess) (without : ℕ) : Type 0 where
  pub jobs : List ℕ
  pub guesses : List Guess
  pub taken : taken_new ≡ taken_old ++ jobs
  pub appended : guesses_new ≡ guesses_old ++ guesses
  pub few : length jobs ≤ room
  pub order : IsSublist (map number_of guesses) jobs
  pub count : length jobs ≡ length guesses + without
  pub right : AllByRecursion (IsGuess g) guesses
