-- The lines among the observed ones so far.
use Rattle.std.proofs.Common.{◌≡◌, take}
use Rattle.casebook_view.specs.Unknown.{lines_to_run}
use Rattle.casebook_view.proofs.to_run.lines_to_run.Given as goal

abbrev pub invariant-loop-number : goal.invariant-loop-number
invariant-loop-number l =
    l.found.items ≡ lines_to_run (take l.number-index l.observed) l.case.recording l.case.repair
