use Rattle.std.proofs.lemmas.Result.{IfErr-weaker, IfOk-weaker, err_from_is_err_and}
use Rattle.casebook_cli.specs.Stops.{StopsRestore}
use Rattle.casebook_cli.proofs.Known.{both, from_first, known}
use Rattle.casebook_cli.proofs.restores.restore_text.Goals as goal

pub returns-in_err-asked-clause-err : goal.returns-in_err-asked-clause-err
returns-in_err-asked-clause-err g c =
    let p = err_from_is_err_and c.from_residual.result c.from_residual.ensures.1 in
    rw (p.1, p.2)
    (from_first (g.D.Documents.bytes_of c.args.documents.now) (g.D.Folders.holds c.args.documents.now) _ _
    c.in_err-asked.ensures.err (λ at folders h. StopsRestore.not_repaired h))

pub returns-clause-ok : goal.returns-clause-ok
returns-clause-ok g c =
    IfOk-weaker c.restored.result _ _
    (λ answer says. both (g.D.Documents.bytes_of c.args.documents.now) (g.D.Folders.holds c.args.documents.now) _ _ _
    c.in_ok-asked.ensures.ok says
    (λ at folders is told. record { asked = c.in_ok-asked.asked; is_repair = is; says = told }))
    c.restored.ensures.ok

pub returns-clause-err : goal.returns-clause-err
returns-clause-err g c =
    IfErr-weaker c.restored.result _ _
    (λ stop h. known (g.D.Documents.bytes_of c.args.documents.now) _
    (λ at. known (g.D.Folders.holds c.args.documents.now) _ (λ folders. StopsRestore.not_restored h)))
    c.restored.ensures.err
