use Rattle.std.proofs.Common.{◌≡◌, ◌++◌, drop, map}
use Rattle.std.specs.List.{list_all}
use Rattle.serde_json.specs.View.{view}
use Rattle.casebook_script.specs.Scripts.{line_data}
use Rattle.casebook_script.specs.inner.Readable.{line_typed}
use Rattle.casebook_script.proofs.document.lines_value.Given as goal

abbrev pub invariant-loop-line : goal.invariant-loop-line
invariant-loop-line l =
    (map view l.values.items ++ map line_data (drop l.line-index l.lines) ≡ map line_data l.lines) ×
    (list_all line_typed l.lines ≡ list_all line_typed (drop l.line-index l.lines))
