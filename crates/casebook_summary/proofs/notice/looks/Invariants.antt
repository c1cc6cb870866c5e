-- The notices so far, and those of the lines that are left.
use Rattle.std.proofs.Common.{◌≡◌, ◌++◌, drop}
use Rattle.casebook_summary.specs.Summaries.{notices_at}
use Rattle.casebook_view.specs.Unknown.{numbers_to_run}
use Rattle.casebook_summary.proofs.notice.looks.Given as goal

abbrev pub invariant-loop-line : goal.invariant-loop-line
invariant-loop-line l =
    l.found.items ++ notices_at l.case.recording l.lines (numbers_to_run (drop l.line-index l.unknown))
    ≡ notices_at l.case.recording l.lines (numbers_to_run l.unknown)
