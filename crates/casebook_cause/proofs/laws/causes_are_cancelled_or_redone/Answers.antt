use Rattle.casebook_cause.proofs.CauseVerdicts.{cancelled_or_redone}
use Rattle.casebook_cause.proofs.laws.causes_are_cancelled_or_redone.Goals as goal

pub returns : goal.returns
returns c = cancelled_or_redone
