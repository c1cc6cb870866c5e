use Rattle.std.proofs.Common.{rules}
use Rattle.retro_utils.proofs.Moving.{may_move}
use Rattle.retro_utils.proofs.utilities.mv.move_directory.Goals as goal

pub move_dir-requires : goal.move_dir-requires
move_dir-requires g c =
    may_move c.args.local.now c.no_dir_place.new.local c.args.from.now c.args.to.now (search rules)
    c.requires.here c.requires.device c.requires.apart
