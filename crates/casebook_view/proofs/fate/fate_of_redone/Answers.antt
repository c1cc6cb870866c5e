use Rattle.casebook_view.proofs.FateLemmas.{fate_at_none, fate_at_some}
use Rattle.casebook_view.proofs.fate.fate_of_redone.Goals as goal

pub returns-in-Some : goal.returns-in-Some
returns-in-Some c =
    fate_at_some c.in-Some.old.now _ _ c.fate_after.result c.in-Some.ensures c.fate_after.ensures

pub returns-in-None : goal.returns-in-None
returns-in-None c = fate_at_none _ _ c.in-None.ensures
