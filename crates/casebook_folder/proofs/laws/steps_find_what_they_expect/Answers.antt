use Rattle.casebook_folder.proofs.Expected.{steps_expected}
use Rattle.casebook_folder.proofs.laws.steps_find_what_they_expect.Goals as goal

pub returns : goal.returns
returns c = steps_expected
