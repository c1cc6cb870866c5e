-- The workers of a round: the seats of its board, each with its guesses.
use Rattle.std.specs.Prelude.{◌≡◌, ℕ, List, All, IfSome, Option}
use Rattle.retro_pool.specs.Guesses.{IsGuess}
use Rattle.retro_pool.specs.Seats.{BoardId, OwnerValue, ThiefValue}
use Rattle.retro_redo.specs.Ground.{GroundValue}
use Rattle.retro_rounds.specs.declared.any_seat.AnySeat.{AnySeat}
use Rattle.retro_rounds.specs.declared.any_seat.AnySeat.TheVariants.{Owner, Thief}
use Rattle.retro_rounds.specs.declared.worker.Worker.{Worker}

abbrev pub board_of : AnySeat → BoardId
board_of (Owner o) = o.board
board_of (Thief t) = t.board

abbrev pub taken_from : AnySeat → List ℕ
taken_from (Owner o) = o.taken
taken_from (Thief t) = t.taken

-- all workers have seats of one board
abbrev pub AreOn : BoardId → List Worker → Type 0
AreOn board workers = All (λ w. board_of w.seat ≡ board) workers

-- each guess of a worker is a run of its line over the combined state before it
abbrev pub HasGuesses : GroundValue → Worker → Type 0
HasGuesses g w = All (IsGuess g) w.guesses.items

-- these seats are of one board
abbrev pub AreOf : BoardId → Option OwnerValue → List ThiefValue → Type 0
AreOf board owner thieves = IfSome owner (λ o. o.board ≡ board) × All (λ t. t.board ≡ board) thieves
