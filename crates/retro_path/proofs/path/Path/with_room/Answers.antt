use Rattle.retro_path.proofs.Slashes.{empty_text}
use Rattle.retro_path.proofs.path.Path.with_room.Goals as goal

pub invariant_of-result : goal.invariant_of-result
invariant_of-result c = (empty_text _ c.in_ok-with_capacity.ensures.bytes).1

pub returns : goal.returns
returns c = (empty_text _ c.in_ok-with_capacity.ensures.bytes).0
