use Rattle.std.proofs.lemmas.Result.{err_from_is_err_and}
use Rattle.casebook_undo.proofs.Sorted.{fault_of_parts}
use Rattle.casebook_undo.proofs.reading.read_rows.Goals as goal

pub returns-in_err-at : goal.returns-in_err-at
returns-in_err-at c =
    let p = err_from_is_err_and c.from_residual.result c.from_residual.ensures.1 in
    rw (p.1, p.2) (fault_of_parts c.in_err-at.field-0.0 c.args.bytes.now c.in_err-at.ensures)
