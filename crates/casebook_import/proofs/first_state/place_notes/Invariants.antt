-- The notes that are left lead to what all lead to.
use Rattle.std.proofs.Common.{◌≡◌, drop}
use Rattle.casebook_import.specs.First.{with_notes}
use Rattle.casebook_import.proofs.first_state.place_notes.Given as goal

abbrev pub invariant-loop-note : goal.invariant-loop-note
invariant-loop-note l =
    with_notes l.contents l.sights (drop l.note-index l.notes) l.state
    ≡ with_notes l.contents l.sights l.notes l.fn.state
