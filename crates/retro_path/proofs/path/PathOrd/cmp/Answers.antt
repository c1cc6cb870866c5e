use Rattle.retro_path.proofs.PathOrder.{order_of_texts}
use Rattle.retro_path.proofs.path.PathOrd.cmp.Goals as goal

pub returns : goal.returns
returns c = let order = order_of_texts _ _ c.self.invariant c.other.invariant in cc
