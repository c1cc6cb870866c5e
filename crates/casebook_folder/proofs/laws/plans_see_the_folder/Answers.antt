use Rattle.casebook_folder.proofs.Planned.{ready_seen}
use Rattle.casebook_folder.proofs.laws.plans_see_the_folder.Goals as goal

pub returns : goal.returns
returns c = ready_seen
