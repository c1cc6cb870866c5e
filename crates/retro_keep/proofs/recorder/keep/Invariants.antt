use Rattle.std.proofs.Common.{◌≤◌, ◌-◌, length, take}
use Rattle.retro_keep.specs.inner.Recorder.{HasRecorded}
use Rattle.retro_keep.proofs.recorder.keep.Given as goal

abbrev pub invariant-loop-start : goal.invariant-loop-start
invariant-loop-start g l =
    (l.start ≤ length l.script.lines)
    × HasRecorded (take l.start l.script.lines) l.script.first l.recorder.lines.items l.recorder.state

abbrev pub decreases-loop-start : goal.decreases-loop-start
decreases-loop-start g l = length l.lines - l.start
