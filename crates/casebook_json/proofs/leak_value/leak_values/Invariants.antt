use Rattle.std.proofs.Common.{◌≡◌, ◌++◌, map, drop}
use Rattle.serde_json.specs.View.{view}
use Rattle.casebook_json.specs.Leaked.{leak_data}
use Rattle.casebook_json.proofs.leak_value.leak_values.Given as goal

abbrev pub invariant-loop-leak : goal.invariant-loop-leak
invariant-loop-leak l =
    map view l.values.items
    ++ map (leak_data l.labels) (drop l.leak-index l.leaks)
    ≡ map (leak_data l.labels) l.leaks
