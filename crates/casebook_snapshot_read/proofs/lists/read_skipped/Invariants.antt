use Rattle.retro_value.specs.Borrowed.{value_data}
use Rattle.casebook_snapshot_read.specs.Rows.{skipped_row, skipped_view}
use Rattle.casebook_snapshot_read.specs.declared.fault.Part.TheVariants as parts
use Rattle.casebook_snapshot_read.proofs.RowLemmas.{IsReadTo}
use Rattle.casebook_snapshot_read.proofs.lists.read_skipped.Given as goal

abbrev pub invariant-loop-row : goal.invariant-loop-row
invariant-loop-row l = IsReadTo parts.Skipped skipped_row value_data skipped_view l.read.items l.rows l.row-index
