use Rattle.casebook_view.proofs.FateLemmas.{fate_with, fate_without}
use Rattle.casebook_view.proofs.fate.fate_after.Goals as goal

pub returns-in-Some : goal.returns-in-Some
returns-in-Some c =
    fate_with c.args.old.now c.in-Some.new.now _ c.fate_of_runs.result c.in-Some.ensures c.fate_of_runs.ensures

pub returns-in-None : goal.returns-in-None
returns-in-None c = fate_without c.args.old.now _ c.in-None.ensures
