-- The variables of the rows so far.
use Rattle.casebook_declare.proofs.InRows.{IsRead}
use Rattle.casebook_declare.proofs.texts.variables_in.Given as goal

abbrev pub invariant-loop-index : goal.invariant-loop-index
invariant-loop-index l = IsRead (λ row. row.now) l.variables.items l.rows l.index
