use Rattle.std.proofs.Common.{ap}
use Rattle.retro_pool.specs.declared.seat_knowledge.SeatKnowledge.{SeatKnowledge}
use Rattle.retro_pool.proofs.Steps.{takes}
use Rattle.retro_pool.proofs.thief.Thief.steal.Goals as goal

pub steal_as-requires-clause-takes : goal.steal_as-requires-clause-takes
steal_as-requires-clause-takes c = takes _ _ (ap (λ (v : SeatKnowledge). v.live) c.self.invariant.1)
