use Rattle.std.proofs.Common.{◌≡◌, ◌++◌, map, drop}
use Rattle.serde_json.specs.View.{view}
use Rattle.casebook_json.specs.Unknown.{unknown_data}
use Rattle.casebook_json.proofs.unknown_value.unknown_values.Given as goal

abbrev pub invariant-loop-line : goal.invariant-loop-line
invariant-loop-line l =
    map view l.values.items ++ map unknown_data (drop l.line-index l.unknown) ≡ map unknown_data l.unknown
