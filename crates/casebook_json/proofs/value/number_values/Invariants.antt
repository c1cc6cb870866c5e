use Rattle.std.proofs.Common.{◌≡◌, ◌++◌, map, drop}
use Rattle.serde_json.specs.View.{view}
use Rattle.retro_json.specs.Values.{number_data}
use Rattle.casebook_json.proofs.value.number_values.Given as goal

abbrev pub invariant-loop-number : goal.invariant-loop-number
invariant-loop-number l =
    map view l.values.items
    ++ map number_data (drop l.number-index l.numbers)
    ≡ map number_data l.numbers
