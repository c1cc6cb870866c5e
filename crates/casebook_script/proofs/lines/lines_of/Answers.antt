use Rattle.std.proofs.Common.{◌≡◌, ◌∙◌, ◌+◌, [], Ok, ap, get_or, length, refl, subst, sym}
use Rattle.std.proofs.lemmas.Result.{err_from_is_err_and}
use Rattle.casebook_script.specs.Lines.{line_of, line_step}
use Rattle.casebook_script.specs.Reads.{FailsAs}
use Rattle.casebook_script.specs.Rows.{at_row}
use Rattle.casebook_script.specs.inner.RowReads.{row_view}
use Rattle.casebook_script.specs.declared.fault.Table.TheVariants as tables
use Rattle.casebook_script.proofs.InTurn.{item_read, table_fails, table_item_fails, turn_done, turn_goes_on}
use Rattle.casebook_script.proofs.lines.lines_of.Goals as goal

pub returns-in_err-line : goal.returns-in_err-line
returns-in_err-line c =
    let l = c.loop-row in
    let s = c.args.sessions.now.sessions in
    let rows = c.args.rows.now in
    let row = get_or rows l.row-index (record { place = 0; text = record { ref_ptr = (0, 0); now = [] } }) in
    let count : c.len.result ≡ length l.lines.items = c.len.ensures ∙ l.lines.ok.0 in
    let e = c.in_err-line.field-0.0 in
    let p = err_from_is_err_and c.from_residual.result c.from_residual.ensures.1 in
    let fails = subst (λ n. FailsAs e (at_row tables.Lines row.place (line_of s (n + 1) row.text.now))) count
    c.in_err-line.ensures in
    rw (p.1, p.2)
    (table_fails (line_step s) row_view [] l.lines.items rows l.row-index _ row e c.loop-row-test.true refl
    (table_item_fails (λ r. at_row tables.Lines r.0 (line_of s (length l.lines.items + 1) r.1)) l.lines.items
    (row_view row) e fails) l.invariant)

pub loop-row-preserved : goal.loop-row-preserved
loop-row-preserved c =
    let l = c.loop-row in
    let s = c.args.sessions.now.sessions in
    let rows = c.args.rows.now in
    let row = get_or rows l.row-index (record { place = 0; text = record { ref_ptr = (0, 0); now = [] } }) in
    let count : c.len.result ≡ length l.lines.items = c.len.ensures ∙ l.lines.ok.0 in
    let line = subst (λ n. at_row tables.Lines row.place (line_of s (n + 1) row.text.now) ≡ Ok c.in_ok-line.line) count
    c.in_ok-line.ensures in
    turn_goes_on (line_step s) row_view [] l.lines.items c.push.new.self.items rows l.row-index _ row
    c.loop-row-test.true refl
    (item_read (λ r. at_row tables.Lines r.0 (line_of s (length l.lines.items + 1) r.1)) l.lines.items (row_view row)
    c.in_ok-line.line line ∙ ap Ok (sym c.in_ok-push.ensures.items)) l.invariant

pub returns : goal.returns
returns c =
    let l = c.loop-row in
    turn_done (line_step c.args.sessions.now.sessions) row_view [] l.lines.items c.args.rows.now l.row-index
    c.loop-row-test.false l.invariant
