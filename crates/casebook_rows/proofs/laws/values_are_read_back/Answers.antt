use Rattle.casebook_rows.proofs.NumberTrip.{number_again, octal_again, signed_again}
use Rattle.casebook_rows.proofs.Trip.{digest_again, path_again, text_again}
use Rattle.casebook_rows.proofs.laws.values_are_read_back.Goals as goal

pub returns-clause-number : goal.returns-clause-number
returns-clause-number c = number_again

pub returns-clause-octal : goal.returns-clause-octal
returns-clause-octal c = octal_again

pub returns-clause-signed : goal.returns-clause-signed
returns-clause-signed c = signed_again

pub returns-clause-text : goal.returns-clause-text
returns-clause-text c = text_again

pub returns-clause-path : goal.returns-clause-path
returns-clause-path c = path_again

pub returns-clause-digest : goal.returns-clause-digest
returns-clause-digest c = digest_again
