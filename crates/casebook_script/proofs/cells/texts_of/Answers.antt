use Rattle.std.proofs.Common.{[], get_or, map, refl}
use Rattle.std.proofs.lemmas.Result.{err_from_is_err_and}
use Rattle.casebook_script.specs.Cells.{text_of}
use Rattle.casebook_script.specs.Steps.{with_item}
use Rattle.casebook_script.proofs.InTurn.{item_goes_on, row_fails, row_item_fails, turn_done}
use Rattle.casebook_script.proofs.cells.texts_of.Goals as goal

pub returns-in_err-text_of : goal.returns-in_err-text_of
returns-in_err-text_of c =
    let l = c.loop-cell in
    let cells = c.args.cells.now in
    let cell = get_or cells l.cell-index (record { ref_ptr = (0, 0); now = [] }) in
    let e = c.in_err-text_of.field-0.0 in
    let p = err_from_is_err_and c.from_residual.result c.from_residual.ensures.1 in
    rw (p.1, p.2)
    (row_fails (with_item text_of) (λ cell. cell.now) [] (map (λ text. text) l.texts.items) cells l.cell-index _ cell e
    c.loop-cell-test.true refl
    (row_item_fails text_of (map (λ text. text) l.texts.items) cell.now e c.in_err-text_of.ensures) l.invariant)

pub loop-cell-preserved : goal.loop-cell-preserved
loop-cell-preserved c =
    let l = c.loop-cell in
    let cells = c.args.cells.now in
    item_goes_on text_of (λ cell. cell.now) (λ text. text) l.texts.items c.push.new.self.items cells l.cell-index _
    (get_or cells l.cell-index (record { ref_ptr = (0, 0); now = [] })) c.in_ok-text_of.field-0 c.loop-cell-test.true
    refl c.in_ok-push.ensures.items c.in_ok-text_of.ensures l.invariant

pub returns : goal.returns
returns c =
    let l = c.loop-cell in
    turn_done (with_item text_of) (λ cell. cell.now) [] (map (λ text. text) l.texts.items) c.args.cells.now l.cell-index
    c.loop-cell-test.false l.invariant
