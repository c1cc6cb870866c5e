use Rattle.casebook_text.proofs.ItemLemmas.{before_cut, no_cut}
use Rattle.casebook_text.proofs.splitting.before_first.Goals as goal

pub returns-in-Some : goal.returns-in-Some
returns-in-Some c = before_cut c.args.c c.args.text.now _ _ c.in-Some.ensures

pub returns-in-None : goal.returns-in-None
returns-in-None c = no_cut c.args.c c.args.text.now c.in-None.ensures
