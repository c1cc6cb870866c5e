use Rattle.std.proofs.Common.{Err, ap}
use Rattle.std.proofs.lemmas.Result.{err_from_is_err_and}
use Rattle.casebook_recording.specs.Told.{lines_in, sessions_in}
use Rattle.casebook_recording.proofs.Faulty.{not_imported}
use Rattle.casebook_recording.proofs.Tellings.{many}
use Rattle.casebook_recording.proofs.telling.imported.Goals as goal

pub returns-in_err-import-clause-err : goal.returns-in_err-import-clause-err
returns-in_err-import-clause-err c =
    let p =
    err_from_is_err_and c.from_residual.result c.from_residual.ensures.1 in
    rw (p.1, p.2)
    (not_imported c.args.case.now c.in_err-import.field-0.0
    (λ is. many c.args.typed.now.sessions.items c.args.typed.now.lines.items
    (sessions_in c.args.case.now) (lines_in c.args.case.now) c.requires.sessions
    c.requires.lines (c.in_err-import.ensures.many (ap Err is))))
