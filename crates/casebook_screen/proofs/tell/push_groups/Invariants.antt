use Rattle.std.proofs.Common.{◌≡◌, ◌++◌, take}
use Rattle.std.specs.Prelude.{flat_map}
use Rattle.casebook_summary.specs.Groups.{group_value}
use Rattle.casebook_screen.specs.Told.{group_told}
use Rattle.casebook_screen.proofs.tell.push_groups.Given as goal

abbrev pub invariant-loop-group : goal.invariant-loop-group
invariant-loop-group l =
    l.screen
    ≡ l.fn.screen
    ++ flat_map (λ group. group_told l.names.labels.now (group_value group)) (take l.group-index l.groups)
