use Rattle.casebook_check.specs.Place.{anywhere}
use Rattle.casebook_check.proofs.finding.place_in_lists.Goals as goal

pub returns : goal.returns
returns c = anywhere
