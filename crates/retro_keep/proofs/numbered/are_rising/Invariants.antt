use Rattle.std.proofs.Common.{◌≡◌, map, drop}
use Rattle.retro_keep.specs.Script.{rises_from}
use Rattle.retro_keep.proofs.numbered.are_rising.Given as goal

abbrev pub invariant-loop-line : goal.invariant-loop-line
invariant-loop-line g l =
    rises_from l.last (map g.L.Numbered.number (drop l.line-index l.lines)) ≡ rises_from 0
    (map g.L.Numbered.number l.lines)
