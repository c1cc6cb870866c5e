use Rattle.casebook_cli.proofs.Known.{of_second, one}
use Rattle.casebook_cli.proofs.restores.undo_text.Goals as goal

pub returns-in_ok-shown-in-Ok-clause-ok : goal.returns-in_ok-shown-in-Ok-clause-ok
returns-in_ok-shown-in-Ok-clause-ok g c =
    of_second (g.D.Documents.bytes_of c.args.documents.now) (g.D.Folders.holds c.args.documents.now) _
    (one (g.D.Folders.holds c.args.documents.now) _ _ c.in-Ok.ensures
    (λ folders is. record {
      bytes = is.0;
      is_file = is.1.0;
      undone = c.in-Ok.answer;
      is_undone = is.1.1;
      text = c.in_ok-shown-in-Ok.ensures.text;
      is_no = c.in_ok-shown-in-Ok.ensures.no;
      harmless = c.in_ok-shown-in-Ok.ensures.harmless;
    }))
