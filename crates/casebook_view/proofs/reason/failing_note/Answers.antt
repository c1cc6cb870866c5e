use Rattle.std.proofs.Common.{ap}
use Rattle.casebook_cause.specs.Cause.{notes_of}
use Rattle.casebook_view.proofs.Failing.{failing_at, nothing_fails}
use Rattle.casebook_view.proofs.reason.failing_note.Goals as goal

pub returns-in-Some : goal.returns-in-Some
returns-in-Some c =
    failing_at c.first_failing_note.result _ _ _ _ (ap notes_of c.in-Some.ensures) c.repaired_before.ensures
    c.first_failing_note.ensures.none c.first_failing_note.ensures.some

pub returns-in-None : goal.returns-in-None
returns-in-None c = nothing_fails _ _ c.in-None.ensures
