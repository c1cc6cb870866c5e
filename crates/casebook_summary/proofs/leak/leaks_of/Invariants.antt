-- The leaks so far, and those of the compensations that are left.
use Rattle.std.proofs.Common.{◌≡◌, ◌++◌, drop, map}
use Rattle.std.specs.List.{filter}
use Rattle.retro_redo.specs.Moments.{compensation_view}
use Rattle.casebook_cause.specs.Compensations.{leaks}
use Rattle.casebook_summary.specs.Summaries.{leak_for}
use Rattle.casebook_view.specs.Unknown.{is_understood}
use Rattle.casebook_summary.proofs.leak.leaks_of.Given as goal

abbrev pub invariant-loop-compensation : goal.invariant-loop-compensation
invariant-loop-compensation l =
    l.found.items
    ++ map (leak_for l.case.recording)
    (filter (is_understood l.unknown) (map compensation_view (drop l.compensation-index l.compensation-items)))
    ≡ map (leak_for l.case.recording) (filter (is_understood l.unknown) (leaks l.case.recording l.case.repair))
