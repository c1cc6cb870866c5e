use Rattle.std.proofs.lemmas.Result.{IfOk-weaker}
use Rattle.casebook_cli.proofs.pages.page_of_case.Goals as goal

pub returns : goal.returns
returns c =
    IfOk-weaker c.page.result _ _
    (λ text is_page. record {
      summary = c.in_ok-summary.summary;
      is_summary = c.in_ok-summary.ensures;
      page = is_page;
    })
    c.page.ensures
