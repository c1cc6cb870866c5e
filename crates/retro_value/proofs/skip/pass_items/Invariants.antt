use Rattle.std.proofs.Common.{◌≡◌, length}
use Rattle.json.specs.Json.{parse_map}
use Rattle.serde_json.specs.Data.{Items}
use Rattle.retro_value.specs.Left.{items_left}
use Rattle.retro_value.proofs.skip.pass_items.Given as goal

-- the items that were passed over stand before those that are left
abbrev pub invariant-items : goal.invariant-items
invariant-items l =
    (before : Items → Items) ×
    (items_left l.depth l.initial.reader ≡ parse_map before (items_left l.depth l.reader))

abbrev pub decreases-items : goal.decreases-items
decreases-items l = length l.reader
