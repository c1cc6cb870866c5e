-- The lines so far, and those of the rows that are left.
use Rattle.std.proofs.Common.{◌≡◌, ◌++◌, drop, map}
use Rattle.casebook_restore.specs.Words.{row_line}
use Rattle.casebook_restore.proofs.words.push_rows.Given as goal

abbrev pub invariant-loop-row : goal.invariant-loop-row
invariant-loop-row l =
    l.lines.items ++ map row_line (drop l.row-index l.rows) ≡ l.fn.lines.items ++ map row_line l.rows
