-- The last line at the places so far.
use Rattle.std.proofs.Common.{take}
use Rattle.casebook_cause.specs.Cause.{IsAlike}
use Rattle.casebook_cause.specs.inner.Latest.{IsLatest}
use Rattle.casebook_cause.specs.inner.Places.{has_line_in}
use Rattle.casebook_cause.proofs.search.Search.last_of.Given as goal

abbrev pub invariant-loop-place : goal.invariant-loop-place
invariant-loop-place l =
    IsLatest (IsAlike l.self.ask.now l.self.recorded.now l.self.repaired.now) l.self.number
    (has_line_in (take l.place-index l.places) l.self.lines.now.lines.keys) l.last
