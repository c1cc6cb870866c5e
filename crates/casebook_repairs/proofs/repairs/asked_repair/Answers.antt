use Rattle.std.proofs.lemmas.Result.{IfErr-weaker}
use Rattle.casebook_repairs.specs.Stops.{StopsAsked}
use Rattle.casebook_repairs.proofs.repairs.asked_repair.Goals as goal

pub returns-clause-err : goal.returns-clause-err
returns-clause-err g c =
    IfErr-weaker c.repaired.result _ _
    (λ stop h. StopsAsked.not_repaired c.in_ok-account.account c.in_ok-account.ensures.ok h)
    c.repaired.ensures.err
