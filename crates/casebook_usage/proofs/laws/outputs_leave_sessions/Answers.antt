use Rattle.casebook_usage.proofs.Sessions.{appended_sessions, opened_sessions}
use Rattle.casebook_usage.proofs.laws.outputs_leave_sessions.Goals as goal

pub returns : goal.returns
returns c = record { opened = opened_sessions; appended = appended_sessions }
