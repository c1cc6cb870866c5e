use Rattle.std.proofs.Common.{◌≡◌, drop}
use Rattle.retro_keep.specs.Recording.{last_state}
use Rattle.retro_keep.proofs.split.apply_lines.Given as goal

abbrev pub invariant-loop-line : goal.invariant-loop-line
invariant-loop-line l = last_state (drop l.line-index l.lines) l.state ≡ last_state l.lines l.fn.state
