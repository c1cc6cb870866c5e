use Rattle.casebook_watch.proofs.Looks.{gone_exactly, named_exactly}
use Rattle.casebook_watch.proofs.laws.paths_are_named_exactly.Goals as goal

pub returns-clause-passes : goal.returns-clause-passes
returns-clause-passes c = named_exactly

pub returns-clause-gone : goal.returns-clause-gone
returns-clause-gone c = gone_exactly
