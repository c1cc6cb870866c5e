use Rattle.std.proofs.Common.{◌≡◌, drop}
use Rattle.json.specs.Value.{members_view}
use Rattle.retro_value.specs.Borrowed.{value_data}
use Rattle.casebook_snapshot_read.specs.Members.{has_only_keys}
use Rattle.casebook_snapshot_read.proofs.Lookups.{json_keys}
use Rattle.casebook_snapshot_read.proofs.members.has_only_keys.Given as goal

abbrev pub invariant-loop-member : goal.invariant-loop-member
invariant-loop-member l =
    json_keys (members_view (drop l.member-index l.member-items)) ≡ has_only_keys (value_data l.value)
