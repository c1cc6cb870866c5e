use Rattle.std.proofs.Common.{string_bytes}
use Rattle.std.proofs.lemmas.Result.{IfOk-weaker}
use Rattle.casebook_cli.proofs.ScreenLemmas.{page_same}
use Rattle.casebook_cli.proofs.pages.page_text.Goals as goal

pub returns : goal.returns
returns c =
    IfOk-weaker c.page_of_case.result _ _
    (λ text h. page_same c.in_ok-case.ensures.source c.in_ok-case.ensures.edits c.in_ok-case.ensures.recording c.in_ok-case.ensures.repair
    c.args.asked.now.labels c.args.title.now c.args.all (string_bytes text) h)
    c.page_of_case.ensures
