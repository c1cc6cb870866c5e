-- The entries so far are kept, and the lines so far have theirs.
use Rattle.std.proofs.Common.{◌≡◌, ℕ, true, take}
use Rattle.casebook_cause.specs.declared.place.SearchPlace.{SearchPlace}
use Rattle.casebook_cause.specs.inner.Places.{HaveEntries, has_line}
use Rattle.casebook_cause.proofs.differing_lines.DifferingLines.add_lines.Given as goal

abbrev pub invariant-loop-line : goal.invariant-loop-line
invariant-loop-line l =
    ((n : ℕ) (p : SearchPlace) → has_line n p l.fn.self.lines.keys ≡ true → has_line n p l.self.lines.keys ≡ true)
    × HaveEntries (take l.line-index l.lines) l.other.lines l.self.lines.keys
