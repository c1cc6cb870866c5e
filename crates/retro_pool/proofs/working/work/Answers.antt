use Rattle.std.proofs.Common.{◌+◌, ◌∙◌, ◌≤◌, ap, arith, refl, vec_capacity}
use Rattle.std.proofs.Common.{vec_len}
use Rattle.retro_pool.specs.Work.{HasWorked}
use Rattle.retro_pool.proofs.Worked.{worked_all, worked_guess, worked_none, worked_without}
use Rattle.retro_pool.proofs.working.work.Goals as goal
use Rattle.retro_pool.proofs.working.work.Goals.{in-Some-guess_of+in-Ok, in-None}

pub loop-init : goal.loop-init
loop-init g c = record {
  board = refl;
  worked = worked_none _ _ _;
  capacity = omega arith;
  len = omega arith;
}

pub loop-preserved : goal.loop-preserved
loop-preserved g c =
    let i = c.loop.invariant in
    let took = c.in-Some.ensures in
    let more : HasWorked c.args.ground.now (c.loop.counter + 1) (g.S.Seat.taken c.args.seat.now)
    (g.S.Seat.taken c.take_job.new.seat)
    c.args.into.now.items c.match-guess_of.into.items c.match-guess_of.without
    × (vec_capacity c.args.into.now ≤ vec_capacity c.match-guess_of.into)
    × (vec_len c.match-guess_of.into ≤ vec_len c.args.into.now + (c.loop.counter + 1)) =
    elim c.match-guess_of.branch [
      | in-Some-guess_of+in-Ok w ↦ (
        rw w.without-is (worked_guess _ _ _ _ _ _ _ _ i.worked _ _ _ took.taken
            (ap (λ v. v.items) w.into-is ∙ w.in-Ok.ensures.items) w.in-Some-guess_of.ensures),
        omega (arith, ap vec_capacity w.into-is, w.push.ensures.capacity, i.capacity),
        omega (arith, ap vec_len w.into-is, w.in-Ok.ensures.len, i.len),
      )
      | in-None w ↦ (
        rw (w.into-is, w.without-is) (worked_without _ _ _ _ _ _ _ _ i.worked _ took.taken),
        omega (arith, ap vec_capacity w.into-is, i.capacity),
        omega (arith, ap vec_len w.into-is, i.len),
      )
    ] in record { board = took.board ∙ i.board; worked = more.0; capacity = more.1; len = more.2 }

pub returns-in_default-clause-worked : goal.returns-in_default-clause-worked
returns-in_default-clause-worked g c =
    let i = c.loop.invariant in
    worked_all _ _ _ _ _ _ _ _ i.worked _ (omega arith) c.in_default.ensures.taken

pub returns-after-loop-clause-worked : goal.returns-after-loop-clause-worked
returns-after-loop-clause-worked g c =
    let i = c.loop.invariant in worked_all _ _ _ _ _ _ _ _ i.worked _ (omega arith) refl
