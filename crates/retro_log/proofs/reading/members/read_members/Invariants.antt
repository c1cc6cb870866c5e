use Rattle.std.proofs.Common.{◌≡◌, length}
use Rattle.serde_json.specs.Data.{Members, no_members}
use Rattle.retro_value.specs.Left.{members_left}
use Rattle.retro_log.specs.inner.Parts.{parts_of}
use Rattle.retro_log.specs.inner.PartsView.{parts_view}
use Rattle.retro_log.proofs.reading.members.read_members.Given as goal

-- the parts are those of the members that were read
abbrev pub invariant-members : goal.invariant-members
invariant-members g l =
    (ms : Members) × (members_left 126 no_members l.initial.reader ≡ members_left 126 ms l.reader) ×
    (parts_view l.parts ≡ parts_of g.L.Line.kind g.L.Line.line_of ms)

abbrev pub decreases-members : goal.decreases-members
decreases-members g l = length l.reader
