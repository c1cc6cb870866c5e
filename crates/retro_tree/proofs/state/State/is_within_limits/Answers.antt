use Rattle.retro_tree.proofs.WholeLaw.{limits_exact}
use Rattle.retro_tree.proofs.state.State.is_within_limits.Goals as goal

pub returns-clause-exact : goal.returns-clause-exact
returns-clause-exact c = limits_exact c.passes_limits.result c.args.self.now c.passes_limits.ensures
