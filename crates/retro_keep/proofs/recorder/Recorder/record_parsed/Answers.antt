use Rattle.std.proofs.Common.{◌≡◌, ◌+◌, ◌<◌, arith, length, subst, take}
use Rattle.retro_keep.specs.inner.Recorder.{HasRecorded}
use Rattle.retro_keep.proofs.Recorded.{has_recorded_next, session_at}
use Rattle.retro_keep.proofs.recorder.Recorder.record_parsed.Goals as goal

pub record-requires-clause-session : goal.record-requires-clause-session
record-requires-clause-session c =
    let at = c.args.start + c.loop-index.index in
    let lt : at < length c.args.script.now.lines = omega (arith, c.requires.within, c.loop-index-test.true) in
    session_at c.args.script.now at c.index-lines-start.result c.loop-index.self.state c.lines-lines.ensures.lawful lt
    (rw c.lines-lines.ensures.value at c.index-lines-start.is) c.loop-index.invariant.sessions

pub loop-index-preserved : goal.loop-index-preserved
loop-index-preserved c =
    let script = c.args.script.now in
    let at = c.args.start + c.loop-index.index in
    let lt : at < length script.lines = omega (arith, c.requires.within, c.loop-index-test.true) in
    let next : at + 1 ≡ c.args.start + (c.loop-index.index + 1) = omega arith in
    let new = c.record.new.self in
    subst (λ n. HasRecorded (take n script.lines) script.first new.lines.items new.state) next
    (has_recorded_next script at c.index-lines-start.result c.record.new.self.state c.record.new.self.lines.items lt
    (rw c.lines-lines.ensures.value at c.index-lines-start.is)
    (c.in_ok-record.ensures script.first (take at script.lines) c.loop-index.invariant))
