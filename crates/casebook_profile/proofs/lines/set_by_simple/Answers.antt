use Rattle.casebook_profile.proofs.LineLemmas.{same_names}
use Rattle.casebook_profile.proofs.lines.set_by_simple.Goals as goal

pub returns-in-Assignments : goal.returns-in-Assignments
returns-in-Assignments c = rw c.in-Assignments.is (rw c.as_slice.ensures.value (same_names c.in-Assignments.all.items))
