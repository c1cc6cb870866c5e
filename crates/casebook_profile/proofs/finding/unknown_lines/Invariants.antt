-- The lines so far, and those of the lines that are left, by what is known before them.
use Rattle.std.proofs.Common.{◌≡◌, ◌++◌, ℕ, List, [], drop, take}
use Rattle.casebook_profile.specs.UnknownLines.{is_set, unknown_after}
use Rattle.casebook_profile.specs.inner.Scopes.{knows}
use Rattle.casebook_profile.proofs.finding.unknown_lines.Given as goal

abbrev pub invariant-loop-line : goal.invariant-loop-line
invariant-loop-line l = record {
  known : (sid : ℕ) (n : List ℕ) → knows l.knowledge sid n ≡ is_set l.recording.first (take l.line-index l.line-items) sid n;
  found : l.found.items ++ unknown_after l.recording.first (take l.line-index l.line-items) (drop l.line-index l.line-items)
      ≡ unknown_after l.recording.first [] l.recording.lines;
}
