use Rattle.std.proofs.Common.{◌≡◌, ◌++◌, map, drop}
use Rattle.serde_json.specs.View.{view}
use Rattle.retro_redo.specs.Moments.{compensation_view}
use Rattle.retro_redo.specs.Repair.{compensations_in}
use Rattle.retro_cli.specs.RepairReport.{compensation_data}
use Rattle.retro_cli.proofs.repair_report.compensation_values.Given as goal

abbrev pub invariant-loop-compensation : goal.invariant-loop-compensation
invariant-loop-compensation l =
    map view l.values.items
    ++ map compensation_data (map compensation_view (drop l.compensation-index l.compensation-items))
    ≡ map compensation_data (compensations_in l.recorded l.repair)
