use Rattle.casebook_check.specs.Place.{not_json}
use Rattle.casebook_check.proofs.finding.stop_place.Goals as goal

pub returns : goal.returns
returns c = λ kind. not_json c.requires.utf8 c.requires.no_value
