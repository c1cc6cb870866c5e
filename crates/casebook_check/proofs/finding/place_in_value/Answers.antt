use Rattle.casebook_check.specs.Place.{anywhere}
use Rattle.casebook_check.proofs.finding.place_in_value.Goals as goal

pub returns-in-NotJson : goal.returns-in-NotJson
returns-in-NotJson c = anywhere
