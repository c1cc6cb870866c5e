use Rattle.casebook_needs.proofs.NeedLaws.{asked_once}
use Rattle.casebook_needs.proofs.laws.needs_are_asked_once.Goals as goal

pub returns : goal.returns
returns c = asked_once
