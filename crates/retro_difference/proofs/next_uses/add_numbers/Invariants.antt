use Rattle.retro_difference.proofs.Meetings.{Adding, left}
use Rattle.retro_difference.proofs.next_uses.add_numbers.Given as goal

abbrev pub invariant-loop-next : goal.invariant-loop-next
invariant-loop-next l = Adding l.from l.last l.cell l.history.lines l.fn.numbers.keys l.numbers.keys l.next

abbrev pub decreases-loop-next : goal.decreases-loop-next
decreases-loop-next l = left l.last l.next
