-- The notices so far, and those of the compensations that are left.
use Rattle.std.proofs.Common.{◌≡◌, ◌++◌, drop, map}
use Rattle.std.specs.List.{filter}
use Rattle.retro_redo.specs.Moments.{compensation_view}
use Rattle.casebook_cause.specs.Compensations.{tellings}
use Rattle.casebook_summary.specs.Summaries.{notice_for}
use Rattle.casebook_view.specs.Unknown.{is_understood}
use Rattle.casebook_summary.proofs.notice.notices.Given as goal

abbrev pub invariant-loop-compensation : goal.invariant-loop-compensation
invariant-loop-compensation l =
    l.found.items
    ++ map (notice_for l.case.recording l.lines)
    (filter (is_understood l.unknown) (map compensation_view (drop l.compensation-index l.compensation-items)))
    ≡ map (notice_for l.case.recording l.lines) (filter (is_understood l.unknown) (tellings l.case.recording l.case.repair))
