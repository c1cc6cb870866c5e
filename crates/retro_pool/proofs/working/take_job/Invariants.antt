use Rattle.std.proofs.Common.{◌≡◌}
use Rattle.retro_pool.proofs.working.take_job.Given as goal

abbrev pub invariant-loop : goal.invariant-loop
invariant-loop g l =
    (g.S.Seat.board l.seat ≡ g.S.Seat.board l.initial.seat)
    × (g.S.Seat.taken l.seat ≡ g.S.Seat.taken l.initial.seat)
