use Rattle.casebook_observe.proofs.Whole.{appended_whole, cut_whole, kept_whole, same_whole, unchanged_whole}
use Rattle.std.proofs.lemmas.Result.{err_from_is_err_and}
use Rattle.casebook_observe.proofs.Refused.{look_refused}
use Rattle.casebook_observe.proofs.observing.take.Goals as goal

pub returns-in_err-fields-clause-any : goal.returns-in_err-fields-clause-any
returns-in_err-fields-clause-any g c = same_whole _

pub returns-in_err-last-clause-any : goal.returns-in_err-last-clause-any
returns-in_err-last-clause-any g c = same_whole _

pub returns-in_err-notes-clause-any : goal.returns-in_err-notes-clause-any
returns-in_err-notes-clause-any g c =
    kept_whole c.in_ok-last.last _ _ _ c.in_ok-last.ensures.value c.in_ok-settle.ensures.ok c.notes_since.ensures.any

pub returns-in_err-text-clause-any : goal.returns-in_err-text-clause-any
returns-in_err-text-clause-any g c =
    kept_whole c.in_ok-last.last _ _ _ c.in_ok-last.ensures.value c.in_ok-settle.ensures.ok c.notes_since.ensures.any

pub returns-in_err-append-clause-any : goal.returns-in_err-append-clause-any
returns-in_err-append-clause-any g c =
    cut_whole c.in_ok-last.last _ _ _ _ _ c.in_ok-last.ensures.value c.in_ok-settle.ensures.ok c.notes_since.ensures.any
    c.in_err-append.ensures.err

pub returns-in_err-settle-clause-any : goal.returns-in_err-settle-clause-any
returns-in_err-settle-clause-any g c = unchanged_whole _ _ c.in_err-settle.ensures.err

pub returns-clause-any : goal.returns-clause-any
returns-clause-any g c =
    appended_whole c.in_ok-last.last _ _ _ _ _ c.in_ok-last.ensures.value c.in_ok-settle.ensures.ok
    c.notes_since.ensures.any c.in_ok-append.ensures.ok

pub returns-in_err-last-clause-err : goal.returns-in_err-last-clause-err
returns-in_err-last-clause-err g c =
    let p = err_from_is_err_and c.from_residual-in_err-last.result c.from_residual-in_err-last.ensures.1 in
    rw (p.1, p.2)
    (look_refused (g.S.Spool.holds c.args.spool.now) c.args.sent.now c.in_err-last.field-0.0 c.in_err-last.ensures.err
    c.in_err-last.ensures.value)
