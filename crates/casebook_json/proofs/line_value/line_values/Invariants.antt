use Rattle.std.proofs.Common.{◌≡◌, ◌++◌, map, drop}
use Rattle.serde_json.specs.View.{view}
use Rattle.casebook_json.specs.Lines.{line_data}
use Rattle.casebook_json.proofs.line_value.line_values.Given as goal

abbrev pub invariant-loop-line : goal.invariant-loop-line
invariant-loop-line l =
    map view l.values.items ++ map line_data (drop l.line-index l.lines) ≡ map line_data l.lines
