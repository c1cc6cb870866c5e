use Rattle.std.proofs.Common.{◌≡◌, drop}
use Rattle.std.specs.BTreeSet.{insert_key}
use Rattle.std.specs.List.{fold}
use Rattle.std.specs.Ordering.{nat_cmp}
use Rattle.casebook_summary.specs.Counts.{sessions_of}
use Rattle.casebook_summary.proofs.sessions.sessions_of.Given as goal

abbrev pub invariant-loop-line : goal.invariant-loop-line
invariant-loop-line l =
    fold (λ sessions line. insert_key nat_cmp sessions line.session) l.sessions.keys (drop l.line-index l.lines)
    ≡ sessions_of l.lines
