use Rattle.std.proofs.Common.{◌≡◌, ◌∙◌, Ok, map, take, sym, ap, arith}
use Rattle.std.proofs.lemmas.Result.{err_from_is_err_and}
use Rattle.casebook_spool.specs.Lines.{front, items_of, rows_length, up_to_record, whole_rows}
use Rattle.casebook_spool.proofs.LinesRead.{kept_length, lines_read, refused_lines, rows_fit, same_rows}
use Rattle.casebook_spool.proofs.lines.read_lines.Goals as goal

pub returns-in_err-items-clause-value : goal.returns-in_err-items-clause-value
returns-in_err-items-clause-value c =
    let p = err_from_is_err_and c.from_residual-in_err-items.result c.from_residual-in_err-items.ensures.1 in
    let rows : map (λ row. row.now) c.front-rows.result.now ≡ whole_rows c.args.text.now = c.front-rows.ensures ∙ ap front (ap (map (λ row. row.now)) c.as_slice.ensures.value ∙ c.in_ok-rows.ensures) in
    rw (p.1, p.2) (refused_lines c.in_err-items.field-0.0 c.args.text.now (rw (sym rows) c.in_err-items.ensures))

pub slice_bounds-rows_length-end : goal.slice_bounds-rows_length-end
slice_bounds-rows_length-end c =
    kept_length (λ row. row.now) c.front-rows.result.now c.in_ok-items.items.items c.up_to_record-kept.result
    c.in_ok-items.ensures (c.up_to_record-kept.ensures ∙ ap up_to_record c.as_slice-2.ensures.value)

pub rows_length-whole-requires : goal.rows_length-whole-requires
rows_length-whole-requires c =
    let rows : map (λ row. row.now) c.front-rows.result.now ≡ whole_rows c.args.text.now = c.front-rows.ensures ∙ ap front (ap (map (λ row. row.now)) c.as_slice.ensures.value ∙ c.in_ok-rows.ensures) in
    let fits = rows_fit (λ row. row.now) c.front-rows.result.now c.args.text.now c.up_to_record-kept.result rows in
    fits

pub returns-clause-value : goal.returns-clause-value
returns-clause-value c =
    let rows : map (λ row. row.now) c.front-rows.result.now ≡ whole_rows c.args.text.now = c.front-rows.ensures ∙ ap front (ap (map (λ row. row.now)) c.as_slice.ensures.value ∙ c.in_ok-rows.ensures) in
    let items : items_of 1 (whole_rows c.args.text.now) ≡ Ok c.in_ok-items.items.items = rw (sym rows) c.in_ok-items.ensures in
    let kept : c.up_to_record-kept.result ≡ up_to_record c.in_ok-items.items.items = c.up_to_record-kept.ensures ∙ ap up_to_record c.as_slice-2.ensures.value in
    let whole : c.rows_length-whole.result ≡ rows_length (take c.up_to_record-kept.result (whole_rows c.args.text.now)) = c.rows_length-whole.ensures ∙ ap rows_length (same_rows (λ row. row.now) c.front-rows.result.now c.args.text.now c.up_to_record-kept.result rows) in
    rw (c.truncate.ensures.items, whole, kept) (lines_read c.args.text.now c.in_ok-items.items.items items)

pub returns-clause-within : goal.returns-clause-within
returns-clause-within c =
    let rows : map (λ row. row.now) c.front-rows.result.now ≡ whole_rows c.args.text.now = c.front-rows.ensures ∙ ap front (ap (map (λ row. row.now)) c.as_slice.ensures.value ∙ c.in_ok-rows.ensures) in
    let fits = rows_fit (λ row. row.now) c.front-rows.result.now c.args.text.now c.up_to_record-kept.result rows in
    omega (arith, fits, c.rows_length-whole.ensures)
