use Rattle.std.proofs.Common.{◌≡◌, ◌++◌, drop}
use Rattle.retro_redo.specs.Repair.{numbers_with}
use Rattle.retro_redo.proofs.repair.Repair.lines_with.Given as goal

abbrev pub invariant-loop-line : goal.invariant-loop-line
invariant-loop-line l =
    l.numbers.items ++ numbers_with l.verdict (drop l.line-index l.self.lines.items)
    ≡ numbers_with l.verdict l.self.lines.items
