use Rattle.std.proofs.Common.{[], ap, ◌∷◌, decimal, map, ℕ, List, sym, ◌∙◌}
use Rattle.std.specs.List.{join_with_byte}
use Rattle.std.proofs.lemmas.Result.{IfOk-weaker}
use Rattle.std.proofs.lemmas.Simd.{map-map}
use Rattle.casebook_text.specs.Lists.{comma}
use Rattle.casebook_text.specs.SafeLine.{text_of_lines}
use Rattle.casebook_view.specs.Rows.{row_value}
use Rattle.casebook_cli.specs.Lines.{row_number}
use Rattle.casebook_cli.proofs.rows_text.numbers_text.Goals as goal

pub returns-clause-value : goal.returns-clause-value
returns-clause-value c =
    let numbers = c.as_slice.ensures.value ∙ c.in_ok-numbers.ensures ∙ sym (map-map row_number row_value c.args.rows.now) in
    IfOk-weaker c.plain_line.result _ _
    (λ text h. h ∙ ap (λ line. text_of_lines (line ∷ []))
    (c.in_ok-list_of_numbers.ensures ∙ ap (λ (ns : List ℕ). join_with_byte comma (map decimal ns)) numbers))
    c.plain_line.ensures.value
