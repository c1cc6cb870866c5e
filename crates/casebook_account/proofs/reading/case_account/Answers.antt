use Rattle.std.proofs.Common.{◌≡◌, ◌⊎◌, ◌∙◌, ap, map, subst}
use Rattle.std.proofs.lemmas.Result.{err_from_is_err_and}
use Rattle.casebook_typed.specs.Values.{line_value, session_value}
use Rattle.casebook_recording.specs.declared.recording_fault.RecordingFault.TheVariants as faults
use Rattle.casebook_account.specs.Accounts.{users_from}
use Rattle.casebook_account.specs.Attributes.{attributes_seen}
use Rattle.casebook_account.specs.Lacks.{incomplete_from, unseen_in}
use Rattle.casebook_account.specs.Machine.{IsTooMany, machine_from}
use Rattle.casebook_account.proofs.Telling.{not_numbered, not_recorded}
use Rattle.casebook_account.proofs.reading.case_account.Goals as goal

pub returns-in_err-lines-clause-err : goal.returns-in_err-lines-clause-err
returns-in_err-lines-clause-err c =
    let p = err_from_is_err_and c.from_residual-in_err-lines.result c.from_residual-in_err-lines.ensures.1 in
    rw (p.1, p.2)
    (not_numbered c.args.case.now c.in_ok-typed.field-0.told c.in_ok-typed.ensures.ok
    c.in_err-lines.field-0.0
    (subst (λ ts. c.in_err-lines.field-0.0 ≡ faults.NoMem ⊎ c.in_err-lines.field-0.0 ≡ faults.TooManyLines × IsTooMany ts)
    c.lines.ensures c.in_err-lines.ensures.err))

pub returns-in_err-recording-clause-err : goal.returns-in_err-recording-clause-err
returns-in_err-recording-clause-err c =
    let p = err_from_is_err_and c.from_residual-in_err-recording.result c.from_residual-in_err-recording.ensures.1 in
    rw (p.1, p.2)
    (not_recorded c.args.case.now c.in_ok-typed.field-0.told c.in_ok-typed.ensures.ok
    c.in_err-recording.field-0.0 c.in_err-recording.ensures.fault)

pub returns-clause-ok : goal.returns-clause-ok
returns-clause-ok c =
    let told = c.in_ok-typed.field-0.told in
    record {
      told = told;
      is_told = c.in_ok-typed.ensures.ok;
      recording = c.in_ok-recording.ensures.recording;
      recorded = c.in_ok-recording.ensures.recorded;
      machine = record {
        lines = c.in_ok-lines.ensures.ok
            ∙ ap (λ ts. machine_from 1 1 ts (map line_value c.as_slice-typed.result.now)) c.lines.ensures
            ∙ ap (λ ls. machine_from 1 1 told.lines (map line_value ls)) c.as_slice-typed.ensures.value
            ∙ ap (machine_from 1 1 told.lines) c.in_ok-typed.ensures.lines;
        users = c.in_ok-users.ensures.ok
            ∙ ap (λ ss. users_from 1 (map session_value ss)) c.as_slice.ensures.value
            ∙ ap (users_from 1) c.in_ok-typed.ensures.sessions;
        incomplete = c.in_ok-incomplete.ensures.ok
            ∙ ap (λ ss. incomplete_from 1 (map session_value ss)) c.as_slice-2.ensures.value
            ∙ ap (incomplete_from 1) c.in_ok-typed.ensures.sessions;
        unseen = c.in_ok-unseen.ensures ∙ ap unseen_in c.as_slice-3.ensures;
        attributes = c.in_ok-attributes.ensures
            ∙ ap (λ ms. attributes_seen c.args.case.now.first.said ms (map line_value c.as_slice-typed.result.now))
            c.as_slice-4.ensures.value
            ∙ ap (λ ls. attributes_seen c.args.case.now.first.said c.in_ok-lines.lines.items (map line_value ls))
            c.as_slice-typed.ensures.value
            ∙ ap (attributes_seen c.args.case.now.first.said c.in_ok-lines.lines.items) c.in_ok-typed.ensures.lines;
      };
    }
