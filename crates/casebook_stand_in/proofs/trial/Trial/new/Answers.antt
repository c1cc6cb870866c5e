use Rattle.casebook_stand_in.proofs.Leading.{no_runs}
use Rattle.casebook_stand_in.proofs.trial.Trial.new.Goals as goal

pub returns-clause-trial : goal.returns-clause-trial
returns-clause-trial c = λ sid s h. no_runs sid s _ _ c.new-runs.ensures.items c.new-cells.ensures.value h
