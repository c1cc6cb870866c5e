use Rattle.std.proofs.lemmas.Result.{IfErr-weaker, IfOk-weaker, err_from_is_err_and}
use Rattle.casebook_cli.specs.Stops.{not_asked, not_shown}
use Rattle.casebook_cli.proofs.answers.show_text.Goals as goal

pub returns-in_err-asked-clause-err : goal.returns-in_err-asked-clause-err
returns-in_err-asked-clause-err g c =
    let p = err_from_is_err_and c.from_residual.result c.from_residual.ensures.1 in
    rw (p.1, p.2) (not_asked c.in_err-asked.ensures.err)

pub returns-clause-ok : goal.returns-clause-ok
returns-clause-ok g c =
    IfOk-weaker c.shown_text.result _ _
    (λ text h. record { asked = c.in_ok-asked.asked; is_asked = c.in_ok-asked.ensures.ok; is_shown = h })
    c.shown_text.ensures.ok

pub returns-clause-err : goal.returns-clause-err
returns-clause-err g c =
    IfErr-weaker c.shown_text.result _ _
    (λ stop h. not_shown c.in_ok-asked.asked c.in_ok-asked.ensures.ok h)
    c.shown_text.ensures.err
