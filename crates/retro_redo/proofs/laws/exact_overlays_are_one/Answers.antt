use Rattle.retro_redo.proofs.Overlays.{one_exact_overlay}
use Rattle.retro_redo.proofs.laws.exact_overlays_are_one.Goals as goal

pub returns : goal.returns
returns c = one_exact_overlay
