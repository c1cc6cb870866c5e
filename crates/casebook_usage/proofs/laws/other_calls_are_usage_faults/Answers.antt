use Rattle.casebook_usage.proofs.UsageFaults.{other_calls}
use Rattle.casebook_usage.proofs.laws.other_calls_are_usage_faults.Goals as goal

pub returns : goal.returns
returns c = other_calls
