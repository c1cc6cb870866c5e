use Rattle.std.proofs.Common.{◌≡◌, ◌+◌, drop, map}
use Rattle.casebook_spool.specs.Lines.{rows_length}
use Rattle.casebook_spool.proofs.lines.rows_length.Given as goal

abbrev pub invariant-loop-row : goal.invariant-loop-row
invariant-loop-row l =
    l.length + rows_length (map (λ row. row.now) (drop l.row-index l.rows)) ≡ rows_length (map (λ row. row.now) l.rows)
