use Rattle.std.proofs.Common.{ap, subst, ◌∙◌}
use Rattle.std.proofs.lemmas.Result.{IfOk-weaker}
use Rattle.casebook_text.specs.SafeLine.{text_of_lines}
use Rattle.casebook_cli.proofs.rows_text.shown_text.Goals as goal

pub returns-clause-value : goal.returns-clause-value
returns-clause-value c =
    IfOk-weaker c.plain_lines.result _ _
    (λ text h. record {
      lines = c.in_ok-lines.lines.items;
      are_lines = c.in_ok-lines.ensures;
      is_text = h ∙ ap text_of_lines c.as_slice.ensures.value;
    })
    c.plain_lines.ensures.value
