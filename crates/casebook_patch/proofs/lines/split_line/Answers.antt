use Rattle.casebook_patch.proofs.LineLemmas.{first_ended, first_open}
use Rattle.casebook_patch.proofs.lines.split_line.Goals as goal

pub returns-in-Some-clause-lines : goal.returns-in-Some-clause-lines
returns-in-Some-clause-lines c = first_ended c.args.text.now c.in-Some.end c.in-Some.ensures

pub returns-in-None-clause-lines : goal.returns-in-None-clause-lines
returns-in-None-clause-lines c = first_open c.args.text.now c.requires c.in-None.ensures
