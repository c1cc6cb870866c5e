use Rattle.serde_json.specs.View.{view}
use Rattle.casebook_about.specs.Rows.{user_row, user_view}
use Rattle.casebook_about.specs.declared.fault.Part.TheVariants as parts
use Rattle.casebook_about.proofs.RowLemmas.{IsReadTo}
use Rattle.casebook_about.proofs.rows.read_users.Given as goal

abbrev pub invariant-loop-row : goal.invariant-loop-row
invariant-loop-row l = IsReadTo parts.Sessions user_row view user_view l.users.items l.rows l.row-index
