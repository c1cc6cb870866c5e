use Rattle.retro_redo.proofs.NextLines.{decided_next, holds_next}
use Rattle.retro_redo.proofs.repairer.Repairer.is_met.Goals as goal

pub returns-clause-met : goal.returns-clause-met
returns-clause-met c = decided_next c.args.self.now c.line_at.result c.line_at.ensures

pub returns-clause-holds : goal.returns-clause-holds
returns-clause-holds c = holds_next c.args.self.now c.line_at.result c.line_at.ensures
