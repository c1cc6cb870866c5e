use Rattle.retro_pool.proofs.Seats.{new_thieves_board}
use Rattle.retro_pool.proofs.board.Board.new.Goals as goal

pub returns-in-Ok-clause-board : goal.returns-in-Ok-clause-board
returns-in-Ok-clause-board c = new_thieves_board _ 1 _ c.in-Ok.ensures.2
