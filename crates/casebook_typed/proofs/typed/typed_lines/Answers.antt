use Rattle.std.proofs.Common.{◌≡◌, ◌∙◌, Err, ap, length, map, sym}
use Rattle.std.proofs.lemmas.List.{length-map}
use Rattle.std.proofs.lemmas.Result.{err_from_is_err_and}
use Rattle.casebook_typed.specs.Lines.{records_of}
use Rattle.casebook_typed.specs.Observations.{observations}
use Rattle.casebook_typed.specs.Seeing.{observed, said}
use Rattle.casebook_typed.specs.Sessions.{steps_of}
use Rattle.casebook_typed.specs.Spans.{contradiction}
use Rattle.casebook_typed.specs.Values.{session_value}
use Rattle.casebook_typed.specs.inner.Places.{names_in, number_at}
use Rattle.casebook_typed.specs.declared.typed_error.TypedError.TheVariants as errors
use Rattle.casebook_typed.proofs.AllLines.{active_are, missing_are, sessions_are, steps_are}
use Rattle.casebook_typed.proofs.typed.typed_lines.Goals as goal

pub returns-in_err-marks-clause-contradiction : goal.returns-in_err-marks-clause-contradiction
returns-in_err-marks-clause-contradiction c = λ at is.
    let p = err_from_is_err_and c.from_residual-in_err-marks.result c.from_residual-in_err-marks.ensures.1 in
    let e : c.in_err-marks.field-0.0 ≡ errors.Contradiction at = cc (p.1, p.2, is) in
    let steps : c.in_ok-steps.steps.items ≡ steps_of (records_of (observations c.args.lines.now.said)) =
    steps_are c.args.lines.now.said c.in_ok-observations.observations.items c.as_slice.result.now c.as_slice-2.result.now
    (names_in c.in_ok-names.names) c.in_ok-steps.steps.items (c.in_ok-observations.ensures ∙ ap observations c.items.ensures)
    c.as_slice.ensures.value c.as_slice-2.ensures.value c.in_ok-names.ensures.names c.in_ok-steps.ensures in
    ap contradiction (sym (c.as_slice-3.ensures.value ∙ steps)) ∙ c.in_err-marks.ensures.contradiction at (ap Err e)

pub sessions-requires-clause-missing : goal.sessions-requires-clause-missing
sessions-requires-clause-missing c =
    missing_are c.in_ok-observations.observations.items c.as_slice.result.now c.as_slice-2.result.now c.as_slice-9.result.now
    (names_in c.in_ok-names.names) c.in_ok-steps.steps.items c.as_slice-4.result.now c.as_slice-7.result.now
    c.in_ok-spans.spans.items c.as_slice-8.result.now (number_at c.in_ok-missing.missing)
    c.as_slice.ensures.value c.as_slice-2.ensures.value c.as_slice-9.ensures.value c.in_ok-names.ensures.names c.in_ok-steps.ensures
    c.as_slice-4.ensures.value c.as_slice-7.ensures.value c.in_ok-spans.ensures c.as_slice-8.ensures.value c.in_ok-missing.ensures

pub lines_after-requires-clause-active : goal.lines_after-requires-clause-active
lines_after-requires-clause-active c =
    let steps : c.in_ok-steps.steps.items ≡ steps_of (records_of (map observed c.in_ok-observations.observations.items)) =
    steps_are c.args.lines.now.said c.in_ok-observations.observations.items c.as_slice.result.now c.as_slice-2.result.now
    (names_in c.in_ok-names.names) c.in_ok-steps.steps.items (c.in_ok-observations.ensures ∙ ap observations c.items.ensures)
    c.as_slice.ensures.value c.as_slice-2.ensures.value c.in_ok-names.ensures.names c.in_ok-steps.ensures
    ∙ ap (λ os. steps_of (records_of os)) (sym (c.in_ok-observations.ensures ∙ ap observations c.items.ensures)) in
    let long : length c.as_slice-5.result.now ≡ length c.in_ok-observations.observations.items =
    ap length (c.as_slice-5.ensures.value ∙ c.in_ok-steps.ensures) ∙ length-map (map said c.as_slice-2.result.now) _
    ∙ length-map c.as_slice-2.result.now said ∙ ap length c.as_slice-2.ensures.value in
    active_are c.in_ok-observations.observations.items c.as_slice-10.result.now c.in_ok-steps.steps.items c.as_slice-4.result.now
    c.as_slice-5.result.now c.in_ok-spans.spans.items c.as_slice-6.result.now c.in_ok-active.active.items c.as_slice-11.result.now
    steps c.as_slice-10.ensures.value c.as_slice-4.ensures.value c.as_slice-5.ensures.value c.in_ok-spans.ensures
    c.as_slice-6.ensures.value c.as_slice-11.ensures.value long c.in_ok-active.ensures.value

pub returns-clause-ok : goal.returns-clause-ok
returns-clause-ok c =
    let steps : c.in_ok-steps.steps.items ≡ steps_of (records_of (observations c.args.lines.now.said)) =
    steps_are c.args.lines.now.said c.in_ok-observations.observations.items c.as_slice.result.now c.as_slice-2.result.now
    (names_in c.in_ok-names.names) c.in_ok-steps.steps.items (c.in_ok-observations.ensures ∙ ap observations c.items.ensures)
    c.as_slice.ensures.value c.as_slice-2.ensures.value c.in_ok-names.ensures.names c.in_ok-steps.ensures in
    ap contradiction (sym (c.as_slice-3.ensures.value ∙ steps)) ∙ c.in_ok-marks.ensures.ok

pub returns-clause-sessions : goal.returns-clause-sessions
returns-clause-sessions c =
    sessions_are c.args.lines.now.said c.in_ok-observations.observations.items c.as_slice.result.now c.as_slice-9.result.now
    (names_in c.in_ok-names.names) (map session_value c.in_ok-sessions.sessions.items) (c.in_ok-observations.ensures ∙ ap observations c.items.ensures)
    c.as_slice.ensures.value c.as_slice-9.ensures.value c.in_ok-names.ensures.names c.in_ok-sessions.ensures
