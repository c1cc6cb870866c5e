use Rattle.casebook_watch.proofs.Looks.{nothing_changed, nothing_gone, nothing_listed, nothing_read}
use Rattle.casebook_watch.proofs.laws.equal_looks_show_nothing.Goals as goal

pub returns-clause-read : goal.returns-clause-read
returns-clause-read c = nothing_read

pub returns-clause-listed : goal.returns-clause-listed
returns-clause-listed c = nothing_listed

pub returns-clause-changed : goal.returns-clause-changed
returns-clause-changed c = nothing_changed

pub returns-clause-gone : goal.returns-clause-gone
returns-clause-gone c = nothing_gone
