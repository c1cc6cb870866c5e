use Rattle.casebook_folder.proofs.GoingOn.{goes_on, goes_on_moments}
use Rattle.casebook_folder.proofs.laws.rows_go_on.Goals as goal

pub returns-clause-restored : goal.returns-clause-restored
returns-clause-restored c = goes_on

pub returns-clause-any_moment : goal.returns-clause-any_moment
returns-clause-any_moment c = goes_on_moments
