use Rattle.std.proofs.Common.{subst}
use Rattle.std.proofs.lemmas.Result.{err_from_is_err_and}
use Rattle.casebook_cli.specs.Stops.{NamesSource, StopsCompare}
use Rattle.casebook_repairs.specs.Views.{document_view}
use Rattle.casebook_cli.proofs.Known.{both, from_first, from_second}
use Rattle.casebook_cli.proofs.comparing.compare_text.Goals as goal

pub returns-in_err-account-clause-err : goal.returns-in_err-account-clause-err
returns-in_err-account-clause-err g c =
    let p = err_from_is_err_and c.from_residual-in_err-account.result c.from_residual-in_err-account.ensures.1 in
    rw (p.1, p.2)
    (from_first (g.D.Documents.bytes_of c.args.documents.now) (g.D.Folders.holds c.args.documents.now) _ _
    c.in_ok-log.ensures.ok
    (λ at folders is. StopsCompare.no_account (document_view c.in_ok-log.log) is c.in_err-account.ensures.err))

pub returns-clause-err : goal.returns-clause-err
returns-clause-err g c =
    from_second (g.D.Documents.bytes_of c.args.documents.now) (g.D.Folders.holds c.args.documents.now) _ _
    c.in-Err.ensures.err
    (λ at folders is. StopsCompare.no_snapshot (record {
      fault = c.in-Err.fault;
      is_fault = is;
      names = subst (λ name. NamesSource name c.in-Err.fault c.snapshot_stop.result) c.name.ensures c.snapshot_stop.ensures;
    }))

pub returns-in-Ok-clause-ok : goal.returns-in-Ok-clause-ok
returns-in-Ok-clause-ok g c =
    both (g.D.Documents.bytes_of c.args.documents.now) (g.D.Folders.holds c.args.documents.now) _ _ _
    c.in_ok-log.ensures.ok c.in-Ok.ensures.ok
    (λ at folders is compared. record {
      document = document_view c.in_ok-log.log;
      is_document = is;
      account = c.in_ok-account.account;
      is_account = c.in_ok-account.ensures.ok;
      compared = c.in-Ok.answer;
      is_compared = compared;
      text = c.in_ok-shown-in-Ok.ensures.text;
      is_no = c.in_ok-shown-in-Ok.ensures.no;
      harmless = c.in_ok-shown-in-Ok.ensures.harmless;
    })
