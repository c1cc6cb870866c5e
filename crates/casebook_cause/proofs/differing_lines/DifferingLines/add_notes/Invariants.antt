-- The entries so far are kept, and each change is at its places or still to come.
use Rattle.std.proofs.Common.{◌≡◌, ◌⊎◌, ℕ, true, drop}
use Rattle.casebook_cause.specs.declared.place.SearchPlace.{SearchPlace}
use Rattle.casebook_cause.specs.inner.Places.{changes_place, has_line}
use Rattle.casebook_cause.proofs.differing_lines.DifferingLines.add_notes.Given as goal

abbrev pub invariant-loop-note : goal.invariant-loop-note
invariant-loop-note l =
    ((n : ℕ) (p : SearchPlace) → has_line n p l.fn.self.lines.keys ≡ true → has_line n p l.self.lines.keys ≡ true)
    × ((p : SearchPlace) → changes_place p l.notes ≡ true
    → (has_line l.number p l.self.lines.keys ≡ true) ⊎ (changes_place p (drop l.note-index l.notes) ≡ true))
