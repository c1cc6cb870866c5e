use Rattle.retro_redo.proofs.repairer.Repairer.settle_again.Goals as goal

pub take_step-requires-clause-may : goal.take_step-requires-clause-may
take_step-requires-clause-may g c =
    λ l next. (c.requires.stale l next, c.in_ok-run.ensures.new_run l next, c.in_ok-run.ensures.holds)

pub returns : goal.returns
returns g c = (c.in_ok-run.run', c.in_ok-take_step.ensures.ok)
