use Rattle.std.proofs.lemmas.Result.{IfErr-weaker}
use Rattle.casebook_account.specs.Accounts.{IsNotShown}
use Rattle.casebook_account.proofs.Telling.{shown_account}
use Rattle.casebook_account.proofs.reading.read_shown.Goals as goal

pub returns-clause-ok : goal.returns-clause-ok
returns-clause-ok c =
    shown_account c.args.bytes.now c.in_ok-account.account c.into_shown.result c.in_ok-account.ensures.ok
    c.into_shown.ensures.ok c.into_shown.ensures.machine

pub returns-clause-err : goal.returns-clause-err
returns-clause-err c =
    IfErr-weaker c.into_shown.result _ _
    (λ fault h. IsNotShown.unshown c.in_ok-account.account c.in_ok-account.ensures.ok h)
    c.into_shown.ensures.err
