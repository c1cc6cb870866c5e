use Rattle.std.proofs.Common.{◌≡◌, ◌+◌, ◌≤◌, vec_capacity, vec_len}
use Rattle.retro_pool.specs.Work.{HasWorked}
use Rattle.retro_pool.proofs.working.work.Given as goal

abbrev pub invariant-loop : goal.invariant-loop
invariant-loop g l = record {
  board : g.S.Seat.board l.seat ≡ g.S.Seat.board l.initial.seat;
  worked : HasWorked l.ground l.counter (g.S.Seat.taken l.initial.seat) (g.S.Seat.taken l.seat) l.initial.into.items
      l.into.items l.without;
  capacity : vec_capacity l.initial.into ≤ vec_capacity l.into;
  len : vec_len l.into ≤ vec_len l.initial.into + l.counter;
}
