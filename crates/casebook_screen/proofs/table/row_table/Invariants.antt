use Rattle.std.proofs.Common.{◌≡◌, map, take}
use Rattle.casebook_screen.specs.Fields.{fields_of}
use Rattle.casebook_view.specs.Rows.{row_value}
use Rattle.casebook_screen.proofs.table.row_table.Given as goal

abbrev pub invariant-loop-row : goal.invariant-loop-row
invariant-loop-row l =
    map (λ fields. fields.items) l.table.items ≡ map (λ row. fields_of l.labels (row_value row)) (take l.row-index l.rows)
