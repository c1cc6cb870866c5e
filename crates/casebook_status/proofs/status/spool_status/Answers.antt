use Rattle.std.proofs.lemmas.Result.{err_from_is_err_and}
use Rattle.casebook_status.proofs.Untold.{no_status}
use Rattle.casebook_status.proofs.status.spool_status.Goals as goal

pub returns-in_err-told-clause-err : goal.returns-in_err-told-clause-err
returns-in_err-told-clause-err c =
    let p = err_from_is_err_and c.from_residual-in_err-told.result c.from_residual-in_err-told.ensures.1 in
    rw (p.1, p.2)
    (no_status c.args.text.now c.in_ok-case.case c.in_ok-case.ensures c.in_err-told.field-0.0
    c.in_err-told.ensures.err)

pub returns-clause-ok : goal.returns-clause-ok
returns-clause-ok c =
    record {
      case = c.in_ok-case.case;
      is_case = c.in_ok-case.ensures;
      told = c.in_ok-told.told.told;
      is_told = c.in_ok-told.ensures.ok;
      is_status = rw (c.in_ok-told.ensures.sessions, c.in_ok-told.ensures.lines) at c.in_ok-status_of.ensures;
    }
