use Rattle.std.proofs.Common.{◌≡◌, map, drop}
use Rattle.retro_keep.specs.Script.{have_sessions}
use Rattle.retro_keep.proofs.numbered.have_sessions.Given as goal

abbrev pub invariant-loop-line : goal.invariant-loop-line
invariant-loop-line g l =
    have_sessions l.state (map g.L.Numbered.sid (drop l.line-index l.lines)) ≡ have_sessions l.state
    (map g.L.Numbered.sid l.lines)
