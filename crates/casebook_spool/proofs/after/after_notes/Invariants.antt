use Rattle.std.proofs.Common.{◌≡◌, drop}
use Rattle.casebook_spool.specs.After.{after_notes}
use Rattle.casebook_spool.proofs.after.after_notes.Given as goal

abbrev pub invariant-loop-note : goal.invariant-loop-note
invariant-loop-note l = after_notes l.sights (drop l.note-index l.notes) ≡ after_notes l.initial.sights l.notes
