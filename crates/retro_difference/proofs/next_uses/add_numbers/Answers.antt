use Rattle.std.proofs.Common.{arith, subst}
use Rattle.retro_difference.proofs.Meetings.{Adding, adding_goes_on, left_less, was_added}
use Rattle.retro_difference.proofs.next_uses.add_numbers.Goals as goal

pub loop-next-smaller : goal.loop-next-smaller
loop-next-smaller c =
    left_less c.args.last c.args.cell.now c.args.history.now.lines c.loop-next.next c.in-Some.number c.in_ok-next.next
    c.in-Some.is (omega arith) c.in_ok-next.ensures

pub loop-next-preserved : goal.loop-next-preserved
loop-next-preserved c =
    adding_goes_on c.args.from c.args.last c.args.cell.now c.args.history.now.lines c.args.numbers.now.keys
    c.loop-next.numbers.keys c.insert.new.self.keys c.in-Some.number c.in_ok-next.next c.requires
    (omega arith)
    (subst (Adding c.args.from c.args.last c.args.cell.now c.args.history.now.lines c.args.numbers.now.keys
    c.loop-next.numbers.keys) c.in-Some.is c.loop-next.invariant)
    (was_added c.loop-next.numbers c.insert.new.self c.in-Some.number c.in_ok-insert.ensures.updates.0)
    c.in_ok-next.ensures
