use Rattle.casebook_snapshot_json.specs.Documents as written
use Rattle.casebook_snapshot_read.specs.ReadBack.{attributes_are_read, entry_is_read, skipped_is_read}
use Rattle.casebook_snapshot_read.specs.Rows.{attributes_row, skipped_row, skipped_view, tree_row}
use Rattle.casebook_snapshot_read.specs.declared.fault.Part.TheVariants as parts
use Rattle.casebook_snapshot_read.proofs.RowsTrip.{attributes_again, rows_again, skipped_again, tree_again}
use Rattle.casebook_snapshot_read.proofs.laws.written_rows_read_back.Goals as goal

pub returns-clause-tree : goal.returns-clause-tree
returns-clause-tree c = λ es h.
    rows_again parts.Tree tree_row written.tree_row (λ e. (e.0, e.1.entry)) entry_is_read tree_again 0 es h

pub returns-clause-attributes : goal.returns-clause-attributes
returns-clause-attributes c = λ es h.
    rows_again parts.Attributes attributes_row written.attributes_row (λ e. (e.0, e.1.attributes)) attributes_are_read
    attributes_again 0 es h

pub returns-clause-skipped : goal.returns-clause-skipped
returns-clause-skipped c = λ ss h.
    rows_again parts.Skipped skipped_row written.skipped_data skipped_view skipped_is_read skipped_again 0 ss h
