use Rattle.std.proofs.Common.{map}
use Rattle.retro_value.specs.Borrowed.{value_data}
use Rattle.casebook_check.specs.Items.{IsStranger}
use Rattle.casebook_check.proofs.First.{IsSought}
use Rattle.casebook_check.proofs.sessions.first_stranger.Given as goal

abbrev pub invariant-loop-index : goal.invariant-loop-index
invariant-loop-index l = IsSought (IsStranger (map value_data l.rows)) value_data l.items l.index
