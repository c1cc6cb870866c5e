use Rattle.retro_pool.proofs.Ordered.{lists_in_order}
use Rattle.retro_pool.proofs.laws.settled_lists_are_in_the_order_of_dealing.Goals as goal

pub returns : goal.returns
returns c = lists_in_order
