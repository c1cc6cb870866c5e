use Rattle.std.proofs.Common.{ap, refl, ◌∙◌, ◌∷◌}
use Rattle.std.proofs.lemmas.Result.{IfOk-weaker}
use Rattle.casebook_text.specs.SafeLine.{text_of_lines}
use Rattle.casebook_cli.specs.Checks.{isnt_line}
use Rattle.casebook_cli.proofs.checks.unlike_text.Goals as goal

pub returns-clause-unlike : goal.returns-clause-unlike
returns-clause-unlike c =
    IfOk-weaker c.plain_lines.result _ _
    (λ text h. record {
      lines = c.in_ok-lines_of_unlike.field-0.items;
      are_unlike = c.in_ok-lines_of_unlike.ensures;
      shown = h ∙ ap text_of_lines {y = isnt_line c.args.name.now ∷ c.in_ok-lines_of_unlike.field-0.items} (c.as_slice.ensures.value
          ∙ rw (c.in_ok-append.ensures.items, c.in_ok-push.ensures.items, c.new-lines.ensures.items, c.in_ok-about.ensures) refl);
    })
    c.plain_lines.ensures.value
