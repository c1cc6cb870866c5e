use Rattle.casebook_spool.proofs.ItemByItem.{IsReadTo}
use Rattle.casebook_spool.proofs.lines.items_of.Given as goal

abbrev pub invariant-loop-row : goal.invariant-loop-row
invariant-loop-row l = IsReadTo (λ row. row.now) l.items.items l.rows l.row-index
