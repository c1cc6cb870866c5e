use Rattle.std.specs.Prelude.{option_map}
use Rattle.std.proofs.lemmas.Result.{err_from_is_err_and}
use Rattle.casebook_cli.specs.Stops.{StopsStatus}
use Rattle.casebook_repairs.specs.Views.{document_view}
use Rattle.casebook_cli.proofs.Known.{known, two}
use Rattle.casebook_cli.proofs.status.status_text.Goals as goal

pub returns-in-Err-clause-err : goal.returns-in-Err-clause-err
returns-in-Err-clause-err g c =
    known (g.D.Documents.bytes_of c.args.documents.now) _
    (λ at. StopsStatus.no_spool c.in-Err.fault c.recorder_stop.ensures)

pub returns-in_err-status-clause-err : goal.returns-in_err-status-clause-err
returns-in_err-status-clause-err g c =
    let p = err_from_is_err_and c.from_residual-in_err-status.result
    c.from_residual-in_err-status.ensures.1 in
    let told = rw c.as_slice-2.ensures.value at c.in_err-status.ensures.err in
    rw (p.1, p.2)
    (known (g.D.Documents.bytes_of c.args.documents.now) _
    (λ at. StopsStatus.untold c.in-Ok.kept.text.items c.in-Ok.ensures.is_case told))

pub returns-clause-ok : goal.returns-clause-ok
returns-clause-ok g c =
    let is_status = rw (c.as_slice.ensures.value, c.as_slice-2.ensures.value) at c.in_ok-status.ensures.ok in
    two (g.D.Documents.bytes_of c.args.documents.now) _ _ _ c.in_ok-who.ensures.ok c.in_ok-mounts.ensures
    (λ at who mounts. record {
      case = c.in-Ok.kept.text.items;
      is_case = c.in-Ok.ensures.is_case;
      tables = record {
        folders = c.in-Ok.kept.folders.items;
        mounts = option_map (λ bytes. bytes.items) c.in_ok-mounts.mounts;
        who = option_map document_view c.in_ok-who.who;
      };
      folders = c.in-Ok.ensures.folders;
      mounts = mounts;
      who = who;
      status = c.in_ok-status.status;
      is_status = is_status;
      text = c.in_ok-shown.ensures.text;
      is_no = c.in_ok-shown.ensures.no;
      harmless = c.in_ok-shown.ensures.harmless;
    })
