use Rattle.casebook_view.proofs.Failing.{cause_from, no_cause}
use Rattle.casebook_view.proofs.reason.cause_at.Goals as goal

pub returns-in-Some : goal.returns-in-Some
returns-in-Some c =
    cause_from c.args.case.now.recording c.args.case.now.repair c.args.number _ _ c.cause_of.result c.in-Some.ensures
    c.cause_of.ensures

pub returns-in-None : goal.returns-in-None
returns-in-None c =
    no_cause c.args.case.now.recording c.args.case.now.repair c.args.number _ c.in-None.ensures
