use Rattle.std.proofs.Common.{◌≡◌, ◌++◌, drop}
use Rattle.retro_redo.specs.Repair.{met_numbers}
use Rattle.retro_redo.proofs.repair.Repair.met_lines.Given as goal

abbrev pub invariant-loop-line : goal.invariant-loop-line
invariant-loop-line l =
    l.numbers.items ++ met_numbers (drop l.line-index l.self.lines.items) ≡ met_numbers l.self.lines.items
