use Rattle.std.proofs.Common.{◌+◌, take}
use Rattle.retro_keep.specs.inner.Recorder.{HasRecorded}
use Rattle.retro_keep.proofs.recorder.Recorder.record_parsed.Given as goal

abbrev pub invariant-loop-index : goal.invariant-loop-index
invariant-loop-index l =
    HasRecorded (take (l.start + l.index) l.script.lines) l.script.first l.self.lines.items l.self.state
