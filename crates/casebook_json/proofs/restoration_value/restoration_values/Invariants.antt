use Rattle.std.proofs.Common.{◌≡◌, ◌++◌, map, drop}
use Rattle.serde_json.specs.View.{view}
use Rattle.casebook_json.specs.Restore.{restoration_data}
use Rattle.casebook_json.proofs.restoration_value.restoration_values.Given as goal

abbrev pub invariant-loop-restoration : goal.invariant-loop-restoration
invariant-loop-restoration l =
    map view l.values.items
    ++ map restoration_data (drop l.restoration-index l.restorations)
    ≡ map restoration_data l.restorations
