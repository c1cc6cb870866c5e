use Rattle.casebook_declare.proofs.RowBack.{row_again}
use Rattle.casebook_declare.proofs.TextBack.{text_again}
use Rattle.casebook_declare.proofs.laws.printed_variables_are_read_back.Goals as goal

pub returns-clause-row : goal.returns-clause-row
returns-clause-row c = row_again

pub returns-clause-text : goal.returns-clause-text
returns-clause-text c = text_again
