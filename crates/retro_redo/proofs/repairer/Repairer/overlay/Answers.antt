use Rattle.retro_redo.proofs.SoFar.{states_seen}
use Rattle.retro_redo.proofs.repairer.Repairer.overlay.Goals as goal

pub returns-clause-runs : goal.returns-clause-runs
returns-clause-runs c =
    states_seen c.args.self.now _ c.self.inside.difference.overlay c.self.inside.lines.items c.self.view_is c.self.invariant.0
    c.noted_line.ensures.well_formed
