use Rattle.casebook_page.specs.Told.{write_said}
use Rattle.casebook_page.proofs.row.push_verb.Goals as goal

pub returns-in-Append : goal.returns-in-Append
unfolding write_said
returns-in-Append c = rw c.in-Append.is c.said-in-Append.ensures
