-- Steps that were made, as folders keep them.
use Rattle.casebook_folder.specs.Steps.{Step, step}
use Rattle.casebook_folder.specs.declared.made_step.MadeStep.{MadeStep}

abbrev pub step_of : MadeStep → Step
step_of s = step s.path s.before s.after
