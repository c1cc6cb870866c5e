-- The tellings so far, and those among the compensations that are left.
use Rattle.std.proofs.Common.{◌≡◌, ◌++◌, drop, map, not}
use Rattle.std.specs.List.{filter}
use Rattle.retro_redo.specs.Moments.{compensation_view}
use Rattle.casebook_cause.specs.Compensations.{is_leak, tellings}
use Rattle.casebook_cause.proofs.compensations.tellings.Given as goal

abbrev pub invariant-loop-compensation : goal.invariant-loop-compensation
invariant-loop-compensation l =
    map compensation_view l.found.items
    ++ filter (λ c. not (is_leak l.repair c)) (map compensation_view (drop l.compensation-index l.compensation-items))
    ≡ tellings l.recorded l.repair
