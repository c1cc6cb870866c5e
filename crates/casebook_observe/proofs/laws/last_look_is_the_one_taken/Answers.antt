use Rattle.casebook_observe.proofs.Taken.{is_left, left_are_paths}
use Rattle.casebook_observe.proofs.laws.last_look_is_the_one_taken.Goals as goal

pub returns-clause-taken : goal.returns-clause-taken
returns-clause-taken c = is_left

pub returns-clause-paths : goal.returns-clause-paths
returns-clause-paths c = left_are_paths
