use Rattle.std.proofs.Common.{◌≡◌, drop}
use Rattle.json.specs.Value.{items_view, members_view}
use Rattle.retro_value.specs.Borrowed.{items_in_range, members_in_range}
use Rattle.retro_value.proofs.range.+in_range.Given as goal

abbrev pub invariant-are_in_range-loop-item : goal.invariant-are_in_range-loop-item
invariant-are_in_range-loop-item l =
    items_in_range (items_view (drop l.item-index l.item-items)) ≡ items_in_range (items_view l.items.items)

abbrev pub invariant-are_members_in_range-loop-member : goal.invariant-are_members_in_range-loop-member
invariant-are_members_in_range-loop-member l =
    members_in_range (members_view (drop l.member-index l.member-items))
    ≡ members_in_range (members_view l.members.items)
