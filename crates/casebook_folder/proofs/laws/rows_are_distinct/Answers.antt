use Rattle.casebook_folder.proofs.Orders.{distinct}
use Rattle.casebook_folder.proofs.laws.rows_are_distinct.Goals as goal

pub returns : goal.returns
returns c = distinct
