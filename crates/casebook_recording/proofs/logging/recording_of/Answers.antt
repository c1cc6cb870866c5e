use Rattle.std.proofs.lemmas.Result.{err_from_is_err_and}
use Rattle.casebook_recording.proofs.Faulty.{not_recorded}
use Rattle.casebook_recording.proofs.logging.recording_of.Goals as goal

pub returns-in_err-into_recording-clause-err : goal.returns-in_err-into_recording-clause-err
returns-in_err-into_recording-clause-err c =
    let p =
    err_from_is_err_and c.from_residual-in_err-into_recording.result
    c.from_residual-in_err-into_recording.ensures.1 in
    rw (p.1, p.2)
    (not_recorded c.args.case.now c.in_ok-found.found.told c.in_ok-found.ensures.ok
    c.in_err-into_recording.field-0.0 c.in_err-into_recording.ensures.fault)

pub returns-clause-ok : goal.returns-clause-ok
returns-clause-ok c = record {
  told = c.in_ok-found.found.told;
  is_told = c.in_ok-found.ensures.ok;
  is_recording = c.in_ok-into_recording.ensures.recording;
}
