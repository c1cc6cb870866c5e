use Rattle.retro_difference.proofs.Meetings.{Gathering}
use Rattle.retro_difference.proofs.next_uses.NextUses.numbers_until.Given as goal

abbrev pub invariant-loop-used : goal.invariant-loop-used
invariant-loop-used l = Gathering l.last l.overlay l.history.lines l.self l.used-iterator l.numbers.keys
