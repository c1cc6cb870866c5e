use Rattle.std.proofs.Common.{◌≡◌, drop}
use Rattle.std.specs.List.{list_all}
use Rattle.casebook_undo.specs.Documents.{is_writable_row}
use Rattle.casebook_undo.proofs.writing.are_writable.Given as goal

abbrev pub invariant-loop-row : goal.invariant-loop-row
invariant-loop-row l =
    list_all is_writable_row l.rows ≡ list_all is_writable_row (drop l.row-index l.rows)
