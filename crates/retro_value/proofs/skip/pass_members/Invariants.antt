use Rattle.std.proofs.Common.{◌≡◌, length}
use Rattle.serde_json.specs.Data.{Members, no_members}
use Rattle.retro_value.specs.Left.{members_left}
use Rattle.retro_value.proofs.skip.pass_members.Given as goal

abbrev pub invariant-members : goal.invariant-members
invariant-members l =
    (found : Members) ×
    (members_left l.depth no_members l.initial.reader ≡ members_left l.depth found l.reader)

abbrev pub decreases-members : goal.decreases-members
decreases-members l = length l.reader
