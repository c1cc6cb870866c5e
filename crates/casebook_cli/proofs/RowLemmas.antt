-- Rows of the code as rows of a table.
use Rattle.std.proofs.Common.{◌≡◌, List, map, sym}
use Rattle.std.proofs.lemmas.Simd.{map-map}
use Rattle.casebook_screen.specs.Fields.{fields_of}
use Rattle.casebook_view.specs.Rows.{row_value}
use Rattle.casebook_view.specs.declared.line_row.LineRow.{LineRow}
use Rattle.casebook_about.specs.declared.labels.Labels.{Labels}

pub table_rows : (labels : Labels) (rows : List LineRow)
    → map (λ row. fields_of labels (row_value row)) rows ≡ map (fields_of labels) (map row_value rows)
table_rows labels rows = sym (map-map (fields_of labels) row_value rows)
