use Rattle.std.proofs.lemmas.Result.{err_from_is_err_and}
use Rattle.casebook_cli.proofs.StatusStops.{no_memory}
use Rattle.casebook_cli.proofs.status.status_by.Goals as goal

pub returns-in_err-unseen-clause-err : goal.returns-in_err-unseen-clause-err
returns-in_err-unseen-clause-err c =
    let p = err_from_is_err_and c.from_residual.result c.from_residual.ensures.1 in
    rw p.1 (no_memory c.args.name.now c.args.text.now _ p.2)

pub returns-in_err-logins-clause-err : goal.returns-in_err-logins-clause-err
returns-in_err-logins-clause-err c =
    let p = err_from_is_err_and c.from_residual-in_err-logins.result
    c.from_residual-in_err-logins.ensures.1 in
    rw p.1 (no_memory c.args.name.now c.args.text.now _ p.2)

pub returns-in-Ok-clause-ok : goal.returns-in-Ok-clause-ok
returns-in-Ok-clause-ok c =
    rw (c.in_ok-unseen.ensures, c.in_ok-logins.ensures) at c.in-Ok.ensures.ok
