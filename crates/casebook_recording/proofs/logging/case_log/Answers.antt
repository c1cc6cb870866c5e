use Rattle.std.proofs.lemmas.Result.{err_from_is_err_and}
use Rattle.casebook_recording.proofs.Faulty.{no_log}
use Rattle.casebook_recording.proofs.logging.case_log.Goals as goal

pub returns-in_err-recording-clause-err : goal.returns-in_err-recording-clause-err
returns-in_err-recording-clause-err c =
    let p =
    err_from_is_err_and c.from_residual-in_err-recording.result
    c.from_residual-in_err-recording.ensures.1 in
    rw (p.1, p.2)
    (no_log c.args.bytes.now c.in_ok-case.case c.in_ok-case.ensures c.in_err-recording.field-0.0
    c.in_err-recording.ensures.err)
