use Rattle.std.proofs.Common.{◌≡◌, ◌++◌, map, drop}
use Rattle.serde_json.specs.View.{view}
use Rattle.casebook_summary.specs.Groups.{group_value}
use Rattle.casebook_json.specs.Tell.{group_data}
use Rattle.casebook_json.proofs.group_value.group_values.Given as goal

abbrev pub invariant-loop-group : goal.invariant-loop-group
invariant-loop-group l =
    map view l.values.items
    ++ map (λ group. group_data l.labels (group_value group)) (drop l.group-index l.groups)
    ≡ map (λ group. group_data l.labels (group_value group)) l.groups
