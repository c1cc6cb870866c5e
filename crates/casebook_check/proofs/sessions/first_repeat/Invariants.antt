use Rattle.std.proofs.Common.{◌≡◌, ℕ, map, take}
use Rattle.std.specs.Ordering.{nat_cmp}
use Rattle.std.specs.BTreeSet.{contains}
use Rattle.retro_value.specs.Borrowed.{value_data}
use Rattle.casebook_check.specs.Items.{has_session}
use Rattle.casebook_check.proofs.First.{IsRepeatSought}
use Rattle.casebook_check.proofs.sessions.first_repeat.Given as goal

abbrev pub invariant-loop-index : goal.invariant-loop-index
invariant-loop-index l = record {
  gathered : (q : ℕ) → contains nat_cmp l.sids q ≡ has_session (map value_data (take l.index l.rows)) q;
  sought : IsRepeatSought value_data l.rows l.index;
}
