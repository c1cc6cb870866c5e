use Rattle.std.proofs.lemmas.Result.{IfErr-weaker}
use Rattle.casebook_request.specs.Views.{request_view}
use Rattle.casebook_cli.specs.Stops.{no_answer}
use Rattle.casebook_cli.proofs.Known.{both_known}
use Rattle.casebook_cli.proofs.program.answer_to.Goals as goal

pub returns-clause-err : goal.returns-clause-err
returns-clause-err g c =
    IfErr-weaker c.answer.result _ _
    (λ stop h. both_known (g.D.Documents.bytes_of c.args.documents.now) (g.D.Folders.holds c.args.documents.now) _ _ h
    (λ at folders stops. no_answer (request_view c.in_ok-request.request) c.in_ok-request.ensures.ok stops))
    c.answer.ensures.err
