use Rattle.retro_path.proofs.PathOrder.{equal_texts}
use Rattle.retro_path.proofs.path.PathPartialEq.eq.Goals as goal

pub returns : goal.returns
returns c = let test = equal_texts _ _ c.self.invariant c.other.invariant in cc
