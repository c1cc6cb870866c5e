use Rattle.std.proofs.Common.{refl, subst}
use Rattle.casebook_cli.specs.Stops.{NamesSource}
use Rattle.casebook_cli.proofs.Known.{from_second, of_second, one}
use Rattle.casebook_cli.proofs.snapshots.snapshot_text.Goals as goal

pub returns-in-Ok-clause-ok : goal.returns-in-Ok-clause-ok
returns-in-Ok-clause-ok g c =
    of_second (g.D.Documents.bytes_of c.args.documents.now) (g.D.Folders.holds c.args.documents.now) _
    (one (g.D.Folders.holds c.args.documents.now) _ _ c.in-Ok.ensures.ok
    (λ folders is. record { is_text = (is.snapshot, is.document); is_no_refusal = refl }))

pub returns-clause-err : goal.returns-clause-err
returns-clause-err g c =
    from_second (g.D.Documents.bytes_of c.args.documents.now) (g.D.Folders.holds c.args.documents.now) _ _
    c.in-Err.ensures.err
    (λ at folders is. record {
      fault = c.in-Err.fault;
      is_fault = is;
      names = subst (λ name. NamesSource name c.in-Err.fault c.snapshot_stop.result) c.name.ensures c.snapshot_stop.ensures;
    })
