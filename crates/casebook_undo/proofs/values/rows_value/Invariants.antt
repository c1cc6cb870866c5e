use Rattle.std.proofs.Common.{◌≡◌, ◌++◌, drop, map}
use Rattle.std.specs.List.{list_all}
use Rattle.serde_json.specs.View.{view}
use Rattle.casebook_undo.specs.Documents.{row_data}
use Rattle.casebook_undo.specs.inner.Typed.{row_typed}
use Rattle.casebook_undo.proofs.values.rows_value.Given as goal

abbrev pub invariant-loop-row : goal.invariant-loop-row
invariant-loop-row l =
    (map view l.values.items ++ map row_data (drop l.row-index l.rows) ≡ map row_data l.rows) ×
    (list_all row_typed l.rows ≡ list_all row_typed (drop l.row-index l.rows))
