use Rattle.std.proofs.Common.{◌≡◌, ◌++◌, map, drop}
use Rattle.serde_json.specs.View.{view}
use Rattle.casebook_json.specs.Values.{path_data}
use Rattle.casebook_json.proofs.value.path_values.Given as goal

abbrev pub invariant-loop-path : goal.invariant-loop-path
invariant-loop-path l =
    map view l.values.items ++ map path_data (drop l.path-index l.paths) ≡ map path_data l.paths
