use Rattle.std.proofs.Common.{ap, map}
use Rattle.std.specs.Prelude.{is_ok}
use Rattle.casebook_record.specs.Records.{record_in, record_of}
use Rattle.std.proofs.lemmas.Result.{err_from_is_err_and}
use Rattle.casebook_observe.proofs.Refused.{fields_refused, record_refused}
use Rattle.casebook_observe.proofs.observing.fields_of_record.Goals as goal

pub returns-clause-record : goal.returns-clause-record
unfolding record_of
returns-clause-record c =
    let read = ap record_in (ap (map (λ field. field.now)) c.as_slice.ensures.value) in
    rw (c.in_ok-fields.ensures) (ap is_ok (rw read at c.in_ok-record_in.ensures))

pub returns-in_err-fields-clause-err : goal.returns-in_err-fields-clause-err
returns-in_err-fields-clause-err c =
    let p = err_from_is_err_and c.from_residual.result c.from_residual.ensures.1 in
    rw (p.1, p.2) (fields_refused c.args.sent.now c.in_err-fields.field-0.0 c.in_err-fields.ensures)

pub returns-in_err-record_in-clause-err : goal.returns-in_err-record_in-clause-err
returns-in_err-record_in-clause-err c =
    let p = err_from_is_err_and c.from_residual-in_err-record_in.result c.from_residual-in_err-record_in.ensures.1 in
    let read = ap record_in (ap (map (λ field. field.now)) c.as_slice.ensures.value) in
    rw (p.1, p.2)
    (record_refused c.args.sent.now (map (λ field. field.now) c.in_ok-fields.fields.items) c.in_err-record_in.field-0.0
    c.in_ok-fields.ensures (rw read at c.in_err-record_in.ensures))
