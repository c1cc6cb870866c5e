use Rattle.casebook_rows.proofs.RowTrip.{fields_again, rows_again}
use Rattle.casebook_rows.proofs.laws.rows_are_read_back.Goals as goal

pub returns-clause-fields : goal.returns-clause-fields
returns-clause-fields c = fields_again

pub returns-clause-rows : goal.returns-clause-rows
returns-clause-rows c = rows_again
