use Rattle.std.proofs.Common.{[], refl}
use Rattle.std.proofs.lemmas.Result.{err_from_is_err_and}
use Rattle.casebook_record.specs.Events.{start_of}
use Rattle.casebook_record.proofs.Passing.{passes}
use Rattle.casebook_record.proofs.Shapes.{nine}
use Rattle.casebook_record.proofs.start.Start.of.Goals as goal

pub returns-in_err-parent : goal.returns-in_err-parent
unfolding start_of
returns-in_err-parent c =
    let p = err_from_is_err_and c.from_residual.result c.from_residual.ensures.1 in
    let fields = nine (λ field. field.now) c.args.fields.now (record { ref_ptr = (0, 0); now = [] })
    c.in-len9.len_at_least c.in-len9.len_below in
    rw (p.1, p.2, fields) (passes _ _ _ c.in_err-parent.ensures)

pub returns-in_err-umask : goal.returns-in_err-umask
unfolding start_of
returns-in_err-umask c =
    let p = err_from_is_err_and c.from_residual-in_err-umask.result c.from_residual-in_err-umask.ensures.1 in
    let fields = nine (λ field. field.now) c.args.fields.now (record { ref_ptr = (0, 0); now = [] })
    c.in-len9.len_at_least c.in-len9.len_below in
    let umask = rw c.of.ensures at c.in_err-umask.ensures in
    rw (p.1, p.2, fields, c.in_ok-parent.ensures) (passes _ _ _ umask)

pub returns-in_err-variables : goal.returns-in_err-variables
unfolding start_of
returns-in_err-variables c =
    let p = err_from_is_err_and c.from_residual-in_err-variables.result c.from_residual-in_err-variables.ensures.1 in
    let fields = nine (λ field. field.now) c.args.fields.now (record { ref_ptr = (0, 0); now = [] })
    c.in-len9.len_at_least c.in-len9.len_below in
    let umask = rw c.of.ensures at c.in_ok-umask.ensures in
    rw (p.1, p.2, fields, c.in_ok-parent.ensures, umask) (passes _ _ _ c.in_err-variables.ensures)

pub returns-in_err-shell : goal.returns-in_err-shell
unfolding start_of
returns-in_err-shell c =
    let p = err_from_is_err_and c.from_residual-in_err-shell.result c.from_residual-in_err-shell.ensures.1 in
    let fields = nine (λ field. field.now) c.args.fields.now (record { ref_ptr = (0, 0); now = [] })
    c.in-len9.len_at_least c.in-len9.len_below in
    let umask = rw c.of.ensures at c.in_ok-umask.ensures in
    rw (p.1, p.2, fields, c.in_ok-parent.ensures, umask, c.in_ok-variables.ensures)
    (passes _ _ _ c.in_err-shell.ensures)

pub returns : goal.returns
unfolding start_of
returns c =
    let fields = nine (λ field. field.now) c.args.fields.now (record { ref_ptr = (0, 0); now = [] })
    c.in-len9.len_at_least c.in-len9.len_below in
    let umask = rw c.of.ensures at c.in_ok-umask.ensures in
    rw (
      fields,
      c.in_ok-parent.ensures,
      umask,
      c.in_ok-variables.ensures,
      c.in_ok-shell.ensures,
      c.in_ok-bytes_of.ensures,
      c.in_ok-bytes_of-2.ensures,
      c.in_ok-bytes_of-3.ensures,
    )
    refl
