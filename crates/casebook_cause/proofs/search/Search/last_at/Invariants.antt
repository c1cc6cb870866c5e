-- The lines at the place from some number on are alike.
use Rattle.std.proofs.Common.{◌≡◌, ◌≤◌, ◌<◌, ℕ, true}
use Rattle.casebook_cause.specs.Cause.{IsAlike}
use Rattle.casebook_cause.specs.inner.Places.{has_line}
use Rattle.casebook_cause.proofs.search.Search.last_at.Given as goal

abbrev pub invariant-loop-line : goal.invariant-loop-line
invariant-loop-line l =
    (l.below ≤ l.self.number)
    × ((k : ℕ) → l.below ≤ k → k < l.self.number → has_line k l.place l.self.lines.now.lines.keys ≡ true
    → IsAlike l.self.ask.now l.self.recorded.now l.self.repaired.now k)

abbrev pub decreases-loop-line : goal.decreases-loop-line
decreases-loop-line l = l.below
