use Rattle.std.proofs.Common.{take}
use Rattle.retro_keep.proofs.Recorded.{has_recorded_next, session_at}
use Rattle.retro_keep.proofs.recorder.keep_alone.Goals as goal

pub record-requires-clause-session : goal.record-requires-clause-session
record-requires-clause-session c =
    session_at c.args.script.now c.loop-line.line-index c.line-item.result c.loop-line.recorder.state
    c.lines-lines.ensures.lawful (rw c.lines-lines.ensures.value at c.loop-line-test.true)
    (rw c.lines-lines.ensures.value at c.line-item.is) c.loop-line.invariant.sessions

pub loop-line-preserved : goal.loop-line-preserved
loop-line-preserved c =
    has_recorded_next c.args.script.now c.loop-line.line-index c.line-item.result c.record.new.self.state
    c.record.new.self.lines.items (rw c.lines-lines.ensures.value at c.loop-line-test.true)
    (rw c.lines-lines.ensures.value at c.line-item.is)
    (c.in_ok-record.ensures c.args.script.now.first (take c.loop-line.line-index c.args.script.now.lines)
    c.loop-line.invariant)
