use Rattle.std.proofs.Common.{◌≡◌, ◌++◌, map, drop}
use Rattle.serde_json.specs.View.{view}
use Rattle.retro_cli.specs.Report.{output_data}
use Rattle.retro_cli.proofs.report.output_values.Given as goal

abbrev pub invariant-loop-number : goal.invariant-loop-number
invariant-loop-number l =
    map view l.values.items ++ map output_data (drop l.number-index l.outputs) ≡ map output_data l.outputs
