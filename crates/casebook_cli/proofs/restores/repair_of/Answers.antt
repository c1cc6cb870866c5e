use Rattle.std.proofs.Common.{subst}
use Rattle.std.proofs.lemmas.Result.{IfErr-weaker, IfOk-weaker, err_from_is_err_and}
use Rattle.casebook_repairs.specs.Inputs.{AreInputs}
use Rattle.casebook_repairs.specs.Stops.{StopsReading}
use Rattle.casebook_cli.specs.Stops.{StopsRepairOf}
use Rattle.casebook_repairs.specs.Views.{inputs_view}
use Rattle.casebook_cli.proofs.Known.{one}
use Rattle.casebook_cli.proofs.restores.repair_of.Goals as goal

pub returns-in_err-inputs-clause-err : goal.returns-in_err-inputs-clause-err
returns-in_err-inputs-clause-err g c =
    let p = err_from_is_err_and c.from_residual.result c.from_residual.ensures.1 in
    rw (p.1, p.2)
    (one (g.D.Documents.bytes_of c.args.documents.now) _ _ c.in_err-inputs.ensures.err
    (λ at h. StopsRepairOf.no_documents
    (subst (λ sources. StopsReading at sources c.in_err-inputs.field-0.0) c.repair_sources.ensures h)))

pub returns-clause-ok : goal.returns-clause-ok
returns-clause-ok g c =
    IfOk-weaker c.asked_repair.result _ _
    (λ asked is. one (g.D.Documents.bytes_of c.args.documents.now) _ _ c.in_ok-inputs.ensures.ok
    (λ at are. record {
      inputs = inputs_view c.in_ok-inputs.inputs;
      are_inputs = subst (λ sources. AreInputs at sources (inputs_view c.in_ok-inputs.inputs)) c.repair_sources.ensures are;
      is_asked = is;
    }))
    c.asked_repair.ensures.ok

pub returns-clause-err : goal.returns-clause-err
returns-clause-err g c =
    IfErr-weaker c.asked_repair.result _ _
    (λ stop h. one (g.D.Documents.bytes_of c.args.documents.now) _ _ c.in_ok-inputs.ensures.ok
    (λ at are. StopsRepairOf.no_repair_of (inputs_view c.in_ok-inputs.inputs)
    (subst (λ sources. AreInputs at sources (inputs_view c.in_ok-inputs.inputs)) c.repair_sources.ensures are) h))
    c.asked_repair.ensures.err
