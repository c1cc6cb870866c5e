use Rattle.std.proofs.Common.{◌∙◌, ap, sym, Ok}
use Rattle.casebook_script.proofs.Rows.{no_rows, rows_of_text}
use Rattle.casebook_script.proofs.table_row.rows_in.Goals as goal

pub returns-in_ok-rows_of-in-Ok : goal.returns-in_ok-rows_of-in-Ok
returns-in_ok-rows_of-in-Ok c =
    let a = c.in-Ok.ensures.cases in
    rows_of_text c.args.table c.args.bytes.now c.in-Ok.text.now a.0 a.1 ∙ ap Ok (sym c.in_ok-rows_of-in-Ok.ensures)

pub returns-in-Err : goal.returns-in-Err
returns-in-Err c = no_rows c.args.table c.args.bytes.now c.in-Err.ensures.cases.0
