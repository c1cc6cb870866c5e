use Rattle.std.proofs.Common.{◌∙◌, ap, subst, sym, take_all}
use Rattle.std.specs.Prelude.{flat_map}
use Rattle.std.proofs.lemmas.List.Folds.{flat_map-map}
use Rattle.std.proofs.lemmas.Result.{IfOk-weaker}
use Rattle.casebook_view.specs.Rows.{row_value}
use Rattle.casebook_screen.specs.Rows.{row_told}
use Rattle.casebook_screen.specs.Screen.{IsScreen}
use Rattle.casebook_screen.proofs.rows.row_lines.Goals as goal

pub returns : goal.returns
returns c =
    let labels = c.args.names.labels.now in
    let rows = c.args.rows.now in
    IfOk-weaker c.lines.result _ _
    (λ lines shown. subst (λ facts. IsScreen facts lines.items)
    (c.loop-row.invariant
    ∙ ap (flat_map (λ row. row_told labels (row_value row)))
    (take_all c.loop-row.row-index rows c.loop-row-test.false)
    ∙ sym (flat_map-map (row_told labels) row_value rows))
    shown)
    c.lines.ensures
