use Rattle.std.proofs.Common.{◌≡◌, ◌++◌}
use Rattle.retro_rounds.proofs.jobs.in_order.Given as goal

abbrev pub invariant-loop-number : goal.invariant-loop-number
invariant-loop-number l = l.numbers.keys ≡ l.list.items ++ l.number-iterator
