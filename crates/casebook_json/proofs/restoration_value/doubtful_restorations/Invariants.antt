-- The values so far, and those of the restorations that are left.
use Rattle.std.proofs.Common.{◌≡◌, ◌++◌, drop, map}
use Rattle.serde_json.specs.View.{view}
use Rattle.casebook_json.specs.Restore.{doubtful_paths}
use Rattle.casebook_json.specs.Values.{path_data}
use Rattle.casebook_json.proofs.restoration_value.doubtful_restorations.Given as goal

abbrev pub invariant-loop-restoration : goal.invariant-loop-restoration
invariant-loop-restoration l =
    map view l.values.items ++ map path_data (doubtful_paths (drop l.restoration-index l.restorations))
    ≡ map path_data (doubtful_paths l.restorations)
