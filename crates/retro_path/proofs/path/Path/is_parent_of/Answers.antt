use Rattle.retro_path.proofs.PathOrder.{equal_texts}
use Rattle.retro_path.proofs.path.Path.is_parent_of.Goals as goal

pub returns-in-Some : goal.returns-in-Some
returns-in-Some c =
    let split = c.in-Some.ensures in
    let test = equal_texts _ _ split.parent_text c.self.invariant in cc
