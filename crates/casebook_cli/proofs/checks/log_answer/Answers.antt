use Rattle.std.proofs.Common.{subst}
use Rattle.std.proofs.lemmas.Result.{IfOk-weaker}
use Rattle.casebook_account.specs.Accounts.{IsAccountOf, IsNoAccount}
use Rattle.casebook_cli.specs.Checks.{IsCheckedAccount}
use Rattle.casebook_cli.proofs.checks.log_answer.Goals as goal

pub returns-in-Ok-clause-checked : goal.returns-in-Ok-clause-checked
returns-in-Ok-clause-checked c =
    let account = c.in-Ok.account in
    IfOk-weaker c.checked_account.result _ _
    (λ answer h. IsCheckedAccount.has_account account
    (subst (λ bytes. IsAccountOf bytes account) c.as_slice.ensures.value c.in-Ok.ensures.ok) h)
    c.checked_account.ensures.checked

pub returns-in-Err-clause-checked : goal.returns-in-Err-clause-checked
returns-in-Err-clause-checked c =
    let fault = c.in-Err.fault in
    IfOk-weaker c.refused_account.result _ _
    (λ answer h. IsCheckedAccount.no_account fault
    (subst (λ bytes. IsNoAccount bytes fault) c.as_slice.ensures.value c.in-Err.ensures.err) h)
    c.refused_account.ensures.checked
