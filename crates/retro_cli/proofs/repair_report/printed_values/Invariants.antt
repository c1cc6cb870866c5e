use Rattle.std.proofs.Common.{◌≡◌, ◌++◌, map, drop}
use Rattle.serde_json.specs.View.{view}
use Rattle.retro_keep.specs.Recording.{output_in}
use Rattle.retro_cli.specs.Report.{output_data}
use Rattle.retro_cli.proofs.repair_report.printed_values.Given as goal

abbrev pub invariant-loop-number : goal.invariant-loop-number
invariant-loop-number l =
    map view l.values.items ++ map output_data (map output_in (drop l.number-index l.lines))
    ≡ map output_data (map output_in l.lines)
