use Rattle.std.proofs.Common.{ap, arith}
use Rattle.retro_pool.specs.declared.seat_knowledge.SeatKnowledge.{SeatKnowledge}
use Rattle.retro_pool.proofs.Steps.{deals}
use Rattle.retro_pool.proofs.owner.Owner.deal.Goals as goal

pub push_as-requires-clause-pushes : goal.push_as-requires-clause-pushes
push_as-requires-clause-pushes c =
    let i = c.self.invariant in
    deals _ _ _ (ap (λ (v : SeatKnowledge). v.live) i.0) (ap (λ (v : SeatKnowledge). v.owns) i.0)
    (let same = ap (λ (v : SeatKnowledge). v.room) i.0 in omega (arith, same, i.2, c.if-self.false))
