use Rattle.std.proofs.Common.{◌≡◌, Some}
use Rattle.retro_value.specs.Borrowed.{value_data}
use Rattle.casebook_check.specs.Items.{item_refusal}
use Rattle.casebook_check.proofs.First.{IsSought}
use Rattle.casebook_check.proofs.items.first_refused.Given as goal

abbrev pub invariant-loop-index : goal.invariant-loop-index
invariant-loop-index l = IsSought (λ one. item_refusal l.kind l.key one ≡ Some l.refusal) value_data l.items l.index
