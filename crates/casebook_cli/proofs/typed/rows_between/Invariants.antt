-- The rows that are kept so far, and those of the rows that are left.
use Rattle.std.proofs.Common.{◌≡◌, ◌++◌, map}
use Rattle.std.specs.List.{filter}
use Rattle.casebook_view.specs.Rows.{row_value}
use Rattle.casebook_request.specs.Bounds.{is_typed}
use Rattle.casebook_cli.specs.Typed.{row_of_number}
use Rattle.casebook_cli.proofs.typed.rows_between.Given as goal

abbrev pub invariant-loop-row : goal.invariant-loop-row
invariant-loop-row l =
    map row_value l.kept.items
    ++ filter (row_of_number (is_typed l.lines)) (map row_value l.row-iterator.rest.items)
    ≡ filter (row_of_number (is_typed l.lines)) (map row_value l.fn.rows.items)
