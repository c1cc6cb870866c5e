use Rattle.casebook_usage.proofs.UsageFaults.{fitting_calls}
use Rattle.casebook_usage.proofs.laws.fitting_calls_are_no_usage_faults.Goals as goal

pub returns : goal.returns
returns c = fitting_calls
