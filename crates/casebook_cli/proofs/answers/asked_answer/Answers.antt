use Rattle.std.proofs.Common.{subst}
use Rattle.std.proofs.lemmas.Result.{IfErr-weaker, err_from_is_err_and}
use Rattle.casebook_request.specs.Views.{query_view}
use Rattle.casebook_cli.specs.Answers.{AnswersQuery}
use Rattle.casebook_repairs.specs.Inputs.{AreInputs}
use Rattle.casebook_repairs.specs.Stops.{StopsReading}
use Rattle.casebook_cli.specs.Stops.{refused, unread}
use Rattle.casebook_repairs.specs.Views.{inputs_view}
use Rattle.casebook_cli.specs.inner.Views.{answer_view}
use Rattle.casebook_cli.proofs.HarmlessLemmas.{both_ok}
use Rattle.casebook_cli.proofs.Known.{from_first, of_first, one}
use Rattle.casebook_cli.proofs.answers.asked_answer.Goals as goal

pub returns-in_err-inputs-clause-err : goal.returns-in_err-inputs-clause-err
returns-in_err-inputs-clause-err g c =
    let p = err_from_is_err_and c.from_residual.result c.from_residual.ensures.1 in
    rw (p.1, p.2)
    (from_first (g.D.Documents.bytes_of c.args.documents.now) (g.D.Folders.holds c.args.documents.now) _ _
    c.in_err-inputs.ensures.err
    (λ at folders h. unread (subst (λ sources. StopsReading at sources c.in_err-inputs.field-0.0) c.sources.ensures h)))

pub returns-clause-err : goal.returns-clause-err
returns-clause-err g c =
    IfErr-weaker c.answer_by.result _ _
    (λ stop h. from_first (g.D.Documents.bytes_of c.args.documents.now) (g.D.Folders.holds c.args.documents.now) _ _
    c.in_ok-inputs.ensures.ok
    (λ at folders are. refused (inputs_view c.in_ok-inputs.inputs)
    (subst (λ sources. AreInputs at sources (inputs_view c.in_ok-inputs.inputs)) c.sources.ensures are) h))
    c.answer_by.ensures.err

pub returns-clause-ok : goal.returns-clause-ok
returns-clause-ok g c =
    let inputs = inputs_view c.in_ok-inputs.inputs in
    both_ok _ _ _ c.answer_by.result
    (λ answer says harmless. of_first (g.D.Documents.bytes_of c.args.documents.now) (g.D.Folders.holds c.args.documents.now) _
    (one (g.D.Documents.bytes_of c.args.documents.now) _ (λ at. AnswersQuery c.args.colours at (query_view c.args.query) (answer_view answer))
    c.in_ok-inputs.ensures.ok
    (λ at are. record {
      inputs = inputs;
      are_inputs = subst (λ sources. AreInputs at sources inputs) c.sources.ensures are;
      answers = says;
      harmless = harmless;
    })))
    c.answer_by.ensures.ok c.answer_by.ensures.harmless
