use Rattle.std.proofs.Common.{string_bytes, subst}
use Rattle.std.proofs.lemmas.Result.{IfErr-weaker, IfOk-weaker}
use Rattle.casebook_cli.specs.Stops.{StopsShown}
use Rattle.casebook_cli.proofs.ScreenLemmas.{shown_same}
use Rattle.casebook_cli.proofs.screens.shown_text.Goals as goal

pub returns-clause-ok : goal.returns-clause-ok
returns-clause-ok c =
    IfOk-weaker c.text_of_case.result _ _
    (λ text h. shown_same c.in_ok-case.ensures.source c.in_ok-case.ensures.edits c.in_ok-case.ensures.recording c.in_ok-case.ensures.repair
    c.args.asked.now.labels c.args.shown c.args.colours (string_bytes text) h)
    c.text_of_case.ensures.ok

pub returns-clause-err : goal.returns-clause-err
returns-clause-err c =
    IfErr-weaker c.text_of_case.result _ _
    (λ stop h. subst (λ r. StopsShown c.args.shown r stop) c.in_ok-case.ensures.recording h)
    c.text_of_case.ensures.err
