use Rattle.std.proofs.Common.{◌∷◌, ◌++◌, [], ap, refl, sym, ◌∙◌}
use Rattle.casebook_text.specs.SafeLine.{text_of_lines}
use Rattle.casebook_cli.proofs.checks.refused_case.Goals as goal

pub returns-clause-checked : goal.returns-clause-checked
returns-clause-checked c =
    rw (sym c.in_ok-words.ensures ∙ c.in-Some.is, c.into_bytes.ensures.value) (
      refl,
      c.in_ok-plain_line.ensures.value
          ∙ ap (λ line. text_of_lines (line ∷ []))
          (c.in_ok-push_line.ensures.ok ∙ ap (λ front. front ++ c.in-Some.words) c.in_ok-line.ensures),
    )
