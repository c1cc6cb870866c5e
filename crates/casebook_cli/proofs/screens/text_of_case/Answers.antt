use Rattle.std.proofs.lemmas.Result.{IfOk-weaker}
use Rattle.casebook_cli.proofs.screens.text_of_case.Goals as goal

pub returns-clause-ok : goal.returns-clause-ok
returns-clause-ok c =
    IfOk-weaker c.shown.result _ _
    (λ text h. record {
      summary = c.in_ok-summary.summary;
      is_summary = c.in_ok-summary.ensures;
      is_text = h;
    })
    c.shown.ensures.ok
