use Rattle.casebook_cli.proofs.Known.{one}
use Rattle.casebook_cli.proofs.restores.restored.Goals as goal

pub returns-in_ok-shown-in-Ok-clause-ok : goal.returns-in_ok-shown-in-Ok-clause-ok
returns-in_ok-shown-in-Ok-clause-ok g c =
    one (g.D.Folders.holds c.args.documents.now) _ _ c.in-Ok.ensures
    (λ folders is. record {
      restored = c.in-Ok.answer;
      is_restored = is;
      text = c.in_ok-shown-in-Ok.ensures.text;
      is_no = c.in_ok-shown-in-Ok.ensures.no;
      harmless = c.in_ok-shown-in-Ok.ensures.harmless;
    })
