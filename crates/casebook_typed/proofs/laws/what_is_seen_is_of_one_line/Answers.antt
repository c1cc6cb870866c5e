use Rattle.casebook_typed.proofs.OneLine.{all_changes, all_listed, all_read}
use Rattle.casebook_typed.proofs.laws.what_is_seen_is_of_one_line.Goals as goal

pub returns-clause-changes : goal.returns-clause-changes
returns-clause-changes c = all_changes

pub returns-clause-read : goal.returns-clause-read
returns-clause-read c = all_read

pub returns-clause-listed : goal.returns-clause-listed
returns-clause-listed c = all_listed
