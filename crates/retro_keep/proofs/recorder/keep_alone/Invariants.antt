use Rattle.std.proofs.Common.{take}
use Rattle.retro_keep.specs.inner.Recorder.{HasRecorded}
use Rattle.retro_keep.proofs.recorder.keep_alone.Given as goal

abbrev pub invariant-loop-line : goal.invariant-loop-line
invariant-loop-line l =
    HasRecorded (take l.line-index l.script.lines) l.script.first l.recorder.lines.items l.recorder.state
