use Rattle.std.proofs.Common.{rules}
use Rattle.std.proofs.lemmas.List.{drop_more}
use Rattle.casebook_summary.proofs.sessions.sessions_of.Goals as goal

pub loop-line-preserved : goal.loop-line-preserved
loop-line-preserved c = search (rules, drop_more)
