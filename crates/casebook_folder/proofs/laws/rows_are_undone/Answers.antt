use Rattle.casebook_folder.proofs.GoingOn.{undone, undone_moments}
use Rattle.casebook_folder.proofs.laws.rows_are_undone.Goals as goal

pub returns-clause-back : goal.returns-clause-back
returns-clause-back c = undone

pub returns-clause-any_moment : goal.returns-clause-any_moment
returns-clause-any_moment c = undone_moments
