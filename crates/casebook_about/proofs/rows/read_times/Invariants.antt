use Rattle.serde_json.specs.View.{view}
use Rattle.casebook_about.specs.Rows.{time_row, time_view}
use Rattle.casebook_about.specs.declared.fault.Part.TheVariants as parts
use Rattle.casebook_about.proofs.RowLemmas.{IsReadTo}
use Rattle.casebook_about.proofs.rows.read_times.Given as goal

abbrev pub invariant-loop-row : goal.invariant-loop-row
invariant-loop-row l = IsReadTo parts.Lines time_row view time_view l.times.items l.rows l.row-index
