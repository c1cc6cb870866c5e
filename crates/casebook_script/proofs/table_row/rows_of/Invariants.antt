use Rattle.casebook_script.specs.inner.RowReads.{row_view}
use Rattle.casebook_script.proofs.Rows.{IsKept}
use Rattle.casebook_script.proofs.table_row.rows_of.Given as goal

abbrev pub invariant-loop-index : goal.invariant-loop-index
invariant-loop-index l = IsKept row_view (λ part. part.now) l.rows.items l.part-items l.index
