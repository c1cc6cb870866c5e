use Rattle.std.proofs.Common.{◌∙◌}
use Rattle.retro_path.proofs.PathOrder.{same_chunks, not_unequal}
use Rattle.retro_path.proofs.order.after_equal.Goals as goal

pub loop-x-preserved : goal.loop-x-preserved
loop-x-preserved g c =
    let left = c.in-Some-Some.ensures.cases in
    let right = c.in-Some-Some.ensures'.cases in
    same_chunks _ _ _ _ _ _ _ left.0 left.1 right.0 right.1 (not_unequal _ _ c.ne.ensures c.if-ne.false)
    ∙ c.loop-x.invariant
