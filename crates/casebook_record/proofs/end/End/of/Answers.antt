use Rattle.std.proofs.Common.{[], refl}
use Rattle.std.proofs.lemmas.Result.{err_from_is_err_and}
use Rattle.casebook_record.specs.Events.{end_of}
use Rattle.casebook_record.proofs.Passing.{passes}
use Rattle.casebook_record.proofs.Shapes.{nine}
use Rattle.casebook_record.proofs.end.End.of.Goals as goal

pub returns-in_err-statuses : goal.returns-in_err-statuses
unfolding end_of
returns-in_err-statuses c =
    let p = err_from_is_err_and c.from_residual-in_err-statuses.result c.from_residual-in_err-statuses.ensures.1 in
    let fields = nine (λ field. field.now) c.args.fields.now (record { ref_ptr = (0, 0); now = [] })
    c.in-len9.len_at_least c.in-len9.len_below in
    let number = rw c.of.ensures at c.in_ok-number.ensures in
    let status = rw c.status_of.ensures at c.in_ok-status.ensures in
    rw (p.1, p.2, fields, number, status) (passes _ _ _ c.in_err-statuses.ensures)

pub returns-in_err-line : goal.returns-in_err-line
unfolding end_of
returns-in_err-line c =
    let p = err_from_is_err_and c.from_residual-in_err-line.result c.from_residual-in_err-line.ensures.1 in
    let fields = nine (λ field. field.now) c.args.fields.now (record { ref_ptr = (0, 0); now = [] })
    c.in-len9.len_at_least c.in-len9.len_below in
    let number = rw c.of.ensures at c.in_ok-number.ensures in
    let status = rw c.status_of.ensures at c.in_ok-status.ensures in
    rw (p.1, p.2, fields, number, status, c.in_ok-statuses.ensures) (passes _ _ _ c.in_err-line.ensures)

pub returns-in_err-variables : goal.returns-in_err-variables
unfolding end_of
returns-in_err-variables c =
    let p = err_from_is_err_and c.from_residual-in_err-variables.result c.from_residual-in_err-variables.ensures.1 in
    let fields = nine (λ field. field.now) c.args.fields.now (record { ref_ptr = (0, 0); now = [] })
    c.in-len9.len_at_least c.in-len9.len_below in
    let number = rw c.of.ensures at c.in_ok-number.ensures in
    let status = rw c.status_of.ensures at c.in_ok-status.ensures in
    rw (p.1, p.2, fields, number, status, c.in_ok-statuses.ensures, c.in_ok-line.ensures)
    (passes _ _ _ c.in_err-variables.ensures)

pub returns-in_err-shell : goal.returns-in_err-shell
unfolding end_of
returns-in_err-shell c =
    let p = err_from_is_err_and c.from_residual-in_err-shell.result c.from_residual-in_err-shell.ensures.1 in
    let fields = nine (λ field. field.now) c.args.fields.now (record { ref_ptr = (0, 0); now = [] })
    c.in-len9.len_at_least c.in-len9.len_below in
    let number = rw c.of.ensures at c.in_ok-number.ensures in
    let status = rw c.status_of.ensures at c.in_ok-status.ensures in
    rw (p.1, p.2, fields, number, status, c.in_ok-statuses.ensures, c.in_ok-line.ensures, c.in_ok-variables.ensures)
    (passes _ _ _ c.in_err-shell.ensures)

pub returns : goal.returns
unfolding end_of
returns c =
    let fields = nine (λ field. field.now) c.args.fields.now (record { ref_ptr = (0, 0); now = [] })
    c.in-len9.len_at_least c.in-len9.len_below in
    let number = rw c.of.ensures at c.in_ok-number.ensures in
    let status = rw c.status_of.ensures at c.in_ok-status.ensures in
    rw (fields, number, status, c.in_ok-statuses.ensures, c.in_ok-line.ensures, c.in_ok-variables.ensures, c.in_ok-shell.ensures)
    refl
