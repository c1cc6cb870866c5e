use Rattle.std.proofs.Common.{◌≡◌, take}
use Rattle.std.specs.Prelude.{flat_map}
use Rattle.casebook_view.specs.Rows.{row_value}
use Rattle.casebook_screen.specs.Rows.{row_told}
use Rattle.casebook_screen.proofs.rows.row_lines.Given as goal

abbrev pub invariant-loop-row : goal.invariant-loop-row
invariant-loop-row l =
    l.screen ≡ flat_map (λ row. row_told l.names.labels.now (row_value row)) (take l.row-index l.rows)
