use Rattle.retro_redo.proofs.InTurn.{repaired_in_turn}
use Rattle.retro_redo.proofs.laws.repairs_in_turn_repair_both.Goals as goal

pub returns : goal.returns
returns c = repaired_in_turn
