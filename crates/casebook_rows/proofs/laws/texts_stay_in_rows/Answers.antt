use Rattle.casebook_rows.proofs.InRow.{digest_in_row, number_in_row, octal_in_row}
use Rattle.casebook_rows.proofs.InRow.{signed_in_row, text_in_row}
use Rattle.casebook_rows.proofs.laws.texts_stay_in_rows.Goals as goal

pub returns-clause-number : goal.returns-clause-number
returns-clause-number c = number_in_row

pub returns-clause-octal : goal.returns-clause-octal
returns-clause-octal c = octal_in_row

pub returns-clause-signed : goal.returns-clause-signed
returns-clause-signed c = signed_in_row

pub returns-clause-text : goal.returns-clause-text
returns-clause-text c = text_in_row

pub returns-clause-digest : goal.returns-clause-digest
returns-clause-digest c = digest_in_row
