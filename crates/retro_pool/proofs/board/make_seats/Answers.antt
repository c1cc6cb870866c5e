use Rattle.std.proofs.Common.{◌+◌, ◌∷◌, [], length, ap, ◌∙◌, arith, length-append}
use Rattle.retro_pool.specs.Seats.{new_thief}
use Rattle.retro_pool.proofs.Seats.{new_snoc}
use Rattle.retro_pool.proofs.Steps.{begins}
use Rattle.retro_pool.proofs.board.make_seats.Goals as goal

pub fifo_as-requires : goal.fifo_as-requires
fifo_as-requires c = begins

pub loop-k-preserved : goal.loop-k-preserved
loop-k-preserved c =
    let i = c.loop-k.invariant in
    let same = c.in_ok-new.ensures.same in
    let new = c.in_ok-new.ensures.seated in
    let pushed = c.in_ok-push.ensures.items in (
      same.0.1 ∙ i.0,
      same.0.0 ∙ i.1,
      new.1,
      same.1 ∙ i.3,
      omega (arith, i.4, same.0.3),
      omega (arith, c.in_ok-push.ensures.len, i.5),
      omega (arith, ap length pushed, length-append c.loop-k.seats.items (c.in_ok-new.field-0 ∷ []), i.6),
      rw pushed (new_snoc _ _ _ _ i.7 (new.0 ∙ (ap (λ d. new_thief d.0 (c.loop-k.k + 1)) i.1
          ∙ ap (new_thief _) (omega (arith, i.6))))),
    )
