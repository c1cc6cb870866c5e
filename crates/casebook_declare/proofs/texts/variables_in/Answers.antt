use Rattle.std.proofs.Common.{◌∙◌, [], Some, ap, get_or, refl, sym}
use Rattle.casebook_declare.proofs.InRows.{row_is_odd, row_says, row_says_nothing, rows_done}
use Rattle.casebook_declare.proofs.texts.variables_in.Goals as goal
use Rattle.casebook_declare.proofs.texts.variables_in.Goals.{in-Nothing, in-Says+in_ok-push-in-Says}

pub returns-in_default : goal.returns-in_default
returns-in_default c =
    let l = c.loop-index in
    let row = get_or c.args.rows.now l.index (record { ref_ptr = (0, 0); now = [] }) in
    row_is_odd (λ row. row.now) l.variables.items c.args.rows.now l.index _ row c.loop-index-test.true refl
    (sym c.in_default.is ∙ c.in_ok-row.ensures) l.invariant

pub loop-index-preserved : goal.loop-index-preserved
loop-index-preserved c =
    let l = c.loop-index in
    let row = get_or c.args.rows.now l.index (record { ref_ptr = (0, 0); now = [] }) in
    elim c.match-row.branch [
      | in-Says+in_ok-push-in-Says w ↦
          rw (w.variables-is, w.in_ok-push-in-Says.ensures.items)
          (row_says (λ row. row.now) l.variables.items c.args.rows.now l.index _ row w.in-Says.variable
          c.loop-index-test.true refl
          (sym c.in_ok-row.ensures ∙ c.in-Some.is ∙ ap Some w.in-Says.is) l.invariant)
      | in-Nothing w ↦
          rw w.variables-is
          (row_says_nothing (λ row. row.now) l.variables.items c.args.rows.now l.index _ row c.loop-index-test.true
          refl (sym c.in_ok-row.ensures ∙ c.in-Some.is ∙ ap Some w.in-Nothing.is) l.invariant)
    ]

pub returns : goal.returns
returns c =
    let l = c.loop-index in
    rows_done (λ row. row.now) l.variables.items c.args.rows.now l.index c.loop-index-test.false l.invariant
