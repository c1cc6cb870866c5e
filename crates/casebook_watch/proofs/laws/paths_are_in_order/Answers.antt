use Rattle.casebook_watch.proofs.Looks.{sorted_gone, sorted_paths}
use Rattle.casebook_watch.proofs.laws.paths_are_in_order.Goals as goal

pub returns-clause-passes : goal.returns-clause-passes
returns-clause-passes c = sorted_paths

pub returns-clause-gone : goal.returns-clause-gone
returns-clause-gone c = sorted_gone
