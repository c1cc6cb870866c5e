use Rattle.casebook_usage.proofs.Sessions.{no_variable_set}
use Rattle.casebook_usage.proofs.laws.calls_set_no_variables.Goals as goal

pub returns : goal.returns
returns c = no_variable_set
