use Rattle.std.proofs.lemmas.Result.{err_from_is_err_and}
use Rattle.casebook_account.proofs.Telling.{no_other}
use Rattle.casebook_account.proofs.reading.account_of_other.Goals as goal

pub returns-in_err-case_account-in-Ok-clause-err : goal.returns-in_err-case_account-in-Ok-clause-err
returns-in_err-case_account-in-Ok-clause-err c =
    let p = err_from_is_err_and c.from_residual.result c.from_residual.ensures.1 in
    rw (p.1, p.2)
    (no_other c.args.bytes.now c.args.refusal c.in-Ok.case c.in-Ok.ensures c.in_err-case_account-in-Ok.field-0.0
    c.in_err-case_account-in-Ok.ensures.err)
