-- The leaks so far, and those among the compensations that are left.
use Rattle.std.proofs.Common.{◌≡◌, ◌++◌, drop, map}
use Rattle.std.specs.List.{filter}
use Rattle.retro_redo.specs.Moments.{compensation_view}
use Rattle.casebook_cause.specs.Compensations.{is_leak, leaks}
use Rattle.casebook_cause.proofs.compensations.leaks.Given as goal

abbrev pub invariant-loop-compensation : goal.invariant-loop-compensation
invariant-loop-compensation l =
    map compensation_view l.found.items
    ++ filter (is_leak l.repair) (map compensation_view (drop l.compensation-index l.compensation-items))
    ≡ leaks l.recorded l.repair
