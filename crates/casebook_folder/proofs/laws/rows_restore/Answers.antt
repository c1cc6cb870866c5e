use Rattle.casebook_folder.proofs.Effects.{restored}
use Rattle.casebook_folder.proofs.Allowed.{any_moment}
use Rattle.casebook_folder.proofs.laws.rows_restore.Goals as goal

pub returns-clause-restored : goal.returns-clause-restored
returns-clause-restored c = restored

pub returns-clause-any_moment : goal.returns-clause-any_moment
returns-clause-any_moment c = any_moment
