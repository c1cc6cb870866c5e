use Rattle.retro_value.specs.Borrowed.{value_data}
use Rattle.casebook_check.proofs.First.{IsFallSought}
use Rattle.casebook_check.proofs.numbers.first_fall.Given as goal

abbrev pub invariant-loop-index : goal.invariant-loop-index
invariant-loop-index l = IsFallSought value_data l.least l.next l.items l.index
