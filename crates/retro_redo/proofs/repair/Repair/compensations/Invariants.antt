use Rattle.std.proofs.Common.{◌≡◌, ◌++◌, drop, map}
use Rattle.std.specs.List.{flat_map}
use Rattle.retro_redo.specs.Moments.{compensation_view}
use Rattle.retro_redo.specs.Repair.{compensation_in}
use Rattle.retro_redo.proofs.repair.Repair.compensations.Given as goal

abbrev pub invariant-loop-line : goal.invariant-loop-line
invariant-loop-line l =
    map compensation_view l.found.items
    ++ flat_map (compensation_in l.self.recording.lines) (drop l.line-index l.lines)
    ≡ flat_map (compensation_in l.self.recording.lines) l.lines
