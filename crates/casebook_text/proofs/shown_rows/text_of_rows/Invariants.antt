use Rattle.std.proofs.Common.{string_bytes, take}
use Rattle.casebook_text.proofs.ShownRows.{AreRowsOf}
use Rattle.casebook_text.proofs.shown_rows.text_of_rows.Given as goal

abbrev pub invariant-loop-fields : goal.invariant-loop-fields
invariant-loop-fields l = AreRowsOf (λ row. row.items) (string_bytes l.text) (take l.fields-index l.rows)
