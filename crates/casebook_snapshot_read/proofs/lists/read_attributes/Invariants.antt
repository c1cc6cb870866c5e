use Rattle.retro_value.specs.Borrowed.{value_data}
use Rattle.casebook_snapshot_read.specs.Rows.{attributes_row}
use Rattle.casebook_snapshot_read.specs.declared.fault.Part.TheVariants as parts
use Rattle.casebook_snapshot_read.proofs.RowLemmas.{IsReadTo}
use Rattle.casebook_snapshot_read.proofs.lists.read_attributes.Given as goal

abbrev pub invariant-loop-row : goal.invariant-loop-row
invariant-loop-row l = IsReadTo parts.Attributes attributes_row value_data (λ row. row) l.read.items l.rows l.row-index
