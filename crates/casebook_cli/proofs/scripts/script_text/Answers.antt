use Rattle.std.proofs.Common.{refl, subst}
use Rattle.casebook_folder_cli.specs.Scripting.{IsNoScript, IsScript}
use Rattle.casebook_cli.specs.Stops.{no_script}
use Rattle.casebook_cli.specs.inner.Views.{files_view}
use Rattle.casebook_cli.proofs.Known.{from_first, of_first, one}
use Rattle.casebook_cli.proofs.scripts.script_text.Goals as goal

pub returns-in-Ok-clause-ok : goal.returns-in-Ok-clause-ok
returns-in-Ok-clause-ok g c =
    of_first (g.D.Documents.bytes_of c.args.documents.now) (g.D.Folders.holds c.args.documents.now) _
    (one (g.D.Documents.bytes_of c.args.documents.now) _ _ c.in_ok-files.ensures.ok
    (λ at are. record {
      is_text = record {
        inputs = files_view c.in_ok-files.files;
        are_inputs = are;
        is_script = subst (λ parts. IsScript parts c.in-Ok.text.items) c.parts_of-parts.ensures c.in-Ok.ensures.ok;
      };
      is_no_refusal = refl;
    }))

pub returns-clause-err : goal.returns-clause-err
returns-clause-err g c =
    from_first (g.D.Documents.bytes_of c.args.documents.now) (g.D.Folders.holds c.args.documents.now) _ _
    c.in_ok-files.ensures.ok
    (λ at folders are. no_script (files_view c.in_ok-files.files) are c.in-Err.fault
    (subst (λ parts. IsNoScript parts c.in-Err.fault) c.parts_of-parts.ensures c.in-Err.ensures.err) c.script_stop.ensures)
