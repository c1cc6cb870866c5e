use Rattle.retro_tree.proofs.WholeLaw.{limits_from_test}
use Rattle.retro_tree.proofs.laws.lawful_states_are_within_limits.Goals as goal

pub returns-clause-sound : goal.returns-clause-sound
returns-clause-sound c = limits_from_test
