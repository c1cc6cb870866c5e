use Rattle.std.proofs.Common.{◌∙◌, ◌+◌, [], ap, get_or, map, refl, sym}
use Rattle.casebook_script.specs.inner.RowReads.{row_view}
use Rattle.casebook_script.specs.Rows.{rows_from}
use Rattle.casebook_script.proofs.Rows.{row_kept, row_skipped, rows_done}
use Rattle.casebook_script.proofs.table_row.rows_of.Goals as goal
use Rattle.casebook_script.proofs.table_row.rows_of.Goals.{then-not-is_skipped+in_ok-push, else-not-is_skipped}

pub loop-index-preserved : goal.loop-index-preserved
loop-index-preserved c =
    let parts = c.deref-part-items.result.now in
    let part = get_or parts c.loop-index.index (record { ref_ptr = (0, 0); now = [] }) in
    elim c.if-not-is_skipped.branch [
      | then-not-is_skipped+in_ok-push w ↦
          row_kept row_view (λ part. part.now) c.loop-index.rows.items c.if-not-is_skipped.rows.items parts c.loop-index.index _ part
          (record { place = c.loop-index.index + 1; text = part }) c.loop-index-test.true refl
          (sym c.is_skipped.ensures ∙ w.if-not-is_skipped.true) refl
          (ap (λ rows. rows.items) w.rows-is ∙ w.in_ok-push.ensures.items) c.loop-index.invariant
      | else-not-is_skipped w ↦
          row_skipped row_view (λ part. part.now) c.if-not-is_skipped.rows.items parts c.loop-index.index _ part
          c.loop-index-test.true refl (sym c.is_skipped.ensures ∙ w.if-not-is_skipped.false)
          (rw w.rows-is c.loop-index.invariant)
    ]

pub returns : goal.returns
returns c =
    rows_done row_view (λ part. part.now) c.loop-index.rows.items c.deref-part-items.result.now c.loop-index.index
    c.loop-index-test.false c.loop-index.invariant
    ∙ ap (rows_from 1) (ap (map (λ part. part.now)) c.deref-part-items.ensures.value ∙ c.in_ok-parts.ensures)
