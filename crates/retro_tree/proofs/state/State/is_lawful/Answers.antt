use Rattle.retro_tree.proofs.WholeLaw.{state_exact}
use Rattle.retro_tree.proofs.state.State.is_lawful.Goals as goal

pub returns-clause-exact : goal.returns-clause-exact
returns-clause-exact c = state_exact c.in_ok-passes_law.field-0 c.args.self.now c.in_ok-passes_law.ensures
