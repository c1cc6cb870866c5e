-- The lines so far, and those among the lines that are left.
use Rattle.std.proofs.Common.{◌≡◌, ◌++◌, drop}
use Rattle.std.specs.List.{filter_map}
use Rattle.casebook_view.specs.Unknown.{unknown_in, unknown_line_in}
use Rattle.casebook_view.proofs.unknown.unknown_in.Given as goal

abbrev pub invariant-loop-line : goal.invariant-loop-line
invariant-loop-line l =
    l.found.items
    ++ filter_map (λ line. unknown_line_in l.case.source l.case.recording l.case.repair line.0)
    (drop l.line-index l.case.recording.lines)
    ≡ unknown_in l.case.source l.case.recording l.case.repair
