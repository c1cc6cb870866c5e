use Rattle.std.proofs.Common.{ap}
use Rattle.retro_pool.specs.declared.seat_knowledge.SeatKnowledge.{SeatKnowledge}
use Rattle.retro_pool.proofs.Steps.{seats_one}
use Rattle.retro_pool.proofs.thief.Thief.new.Goals as goal

pub another-pass-requires : goal.another-pass-requires
another-pass-requires c = seats_one _ _ (ap (λ (v : SeatKnowledge). v.live) c.requires.view)
    (ap (λ (v : SeatKnowledge). v.owns) c.requires.view)
