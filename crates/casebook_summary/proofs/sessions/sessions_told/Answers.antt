use Rattle.std.proofs.Common.{rules}
use Rattle.std.proofs.lemmas.List.{drop_more}
use Rattle.casebook_summary.proofs.sessions.sessions_told.Goals as goal

pub loop-notice-preserved : goal.loop-notice-preserved
loop-notice-preserved c = search (rules, drop_more)
