use Rattle.casebook_folder.proofs.Planned.{fitting}
use Rattle.casebook_folder.proofs.laws.kept_rows_are_the_changes.Goals as goal

pub returns : goal.returns
returns c = fitting
