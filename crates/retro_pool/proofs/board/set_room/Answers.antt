use Rattle.retro_pool.proofs.Steps.{opens}
use Rattle.retro_pool.proofs.board.set_room.Goals as goal

pub another-requires : goal.another-requires
another-requires g c = opens g.B.Room.room _ _ c.requires.view
