use Rattle.std.proofs.Common.{ap}
use Rattle.retro_pool.specs.declared.seat_knowledge.SeatKnowledge.{SeatKnowledge}
use Rattle.retro_pool.proofs.Steps.{takes, finds}
use Rattle.retro_pool.proofs.owner.Owner.next.Goals as goal

pub pop_as-requires-clause-fifo : goal.pop_as-requires-clause-fifo
pop_as-requires-clause-fifo c = λ _. takes _ _ (ap (λ (v : SeatKnowledge). v.live) c.self.invariant.0)

pub pop_as-requires-clause-empty : goal.pop_as-requires-clause-empty
pop_as-requires-clause-empty c = finds _ _ (ap (λ (v : SeatKnowledge). v.live) c.self.invariant.0)
    (ap (λ (v : SeatKnowledge). v.owns) c.self.invariant.0)
