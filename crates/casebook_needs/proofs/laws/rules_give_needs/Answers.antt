use Rattle.casebook_needs.proofs.NeedLaws.{given_by_rules}
use Rattle.casebook_needs.proofs.laws.rules_give_needs.Goals as goal

pub returns : goal.returns
returns c = given_by_rules
