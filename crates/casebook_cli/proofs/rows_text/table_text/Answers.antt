use Rattle.std.proofs.Common.{ap, map, ◌∙◌}
use Rattle.std.proofs.lemmas.Result.{IfOk-weaker}
use Rattle.casebook_text.specs.SafeLine.{text_of_rows}
use Rattle.casebook_cli.proofs.RowLemmas.{table_rows}
use Rattle.casebook_cli.proofs.rows_text.table_text.Goals as goal

pub returns-clause-value : goal.returns-clause-value
returns-clause-value c =
    IfOk-weaker c.plain_rows.result _ _
    (λ text h. h ∙ ap text_of_rows
    (ap (map (λ row. row.items)) c.as_slice.ensures.value
    ∙ (c.in_ok-table.ensures ∙ table_rows c.args.labels.now c.args.rows.now)))
    c.plain_rows.ensures.value
