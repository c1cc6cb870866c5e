use Rattle.std.proofs.Common.{ap, is_some, map, refl, subst}
use Rattle.std.proofs.lemmas.Bool.{true≢false}
use Rattle.retro_keep.specs.Recording.{AllRecorded, sid_in}
use Rattle.retro_keep.proofs.Recorded.{noted_session_at, recorded_keeps_law, recorded_keeps_sessions}
use Rattle.retro_keep.proofs.Unlikes.{all_taken, line_at, recorded_on, state_on}
use Rattle.retro_keep.specs.Unlike.{IsUnlike}
use Rattle.retro_keep.proofs.unlike.first_unlike.Goals as goal

pub run_unlike-requires-clause-session : goal.run_unlike-requires-clause-session
run_unlike-requires-clause-session c =
    noted_session_at c.loop-line.state c.args.recording.now.lines c.loop-line.line-index c.line-item.result
    (rw c.lines-line-items.ensures.value at c.loop-line-test.true)
    (rw c.lines-line-items.ensures.value at c.line-item.is) c.loop-line.invariant.known

pub returns-in-Some : goal.returns-in-Some
returns-in-Some c =
    let lines = c.args.recording.now.lines in
    let lt = rw c.lines-line-items.ensures.value at c.loop-line-test.true in
    let is = rw c.lines-line-items.ensures.value at c.line-item.is in
    let unlike = rw c.in-Some.is at c.in_ok-run.ensures.unlike in
    record {
      none = λ some. absurd (true≢false (ap is_some some));
      some = record {
        index = c.loop-line.line-index;
        noted = c.line-item.result.1;
        line = line_at lines c.loop-line.line-index c.line-item.result lt is;
        before = c.loop-line.invariant.recorded;
        unlike = subst (λ s. IsUnlike c.line-item.result.1 c.in-Some.run' s) c.loop-line.invariant.state unlike;
      };
    }

pub loop-line-preserved : goal.loop-line-preserved
loop-line-preserved c =
    let lines = c.args.recording.now.lines in
    let lt = rw c.lines-line-items.ensures.value at c.loop-line-test.true in
    let is = rw c.lines-line-items.ensures.value at c.line-item.is in
    let one = c.in_ok-run.ensures.recorded c.in_default.is in
    let made = c.in_ok-run.ensures.state c.in_default.is in
    let has =
    noted_session_at c.loop-line.state lines c.loop-line.line-index c.line-item.result lt is c.loop-line.invariant.known
    in
    record {
      recorded =
          recorded_on lines c.loop-line.line-index c.line-item.result c.args.recording.now.first c.loop-line.state lt is
          c.loop-line.invariant.recorded c.loop-line.invariant.state one;
      state =
          state_on lines c.loop-line.line-index c.line-item.result c.args.recording.now.first c.loop-line.state
          c.run_unlike.new.state lt is c.loop-line.invariant.state made;
      lawful =
          recorded_keeps_law c.line-item.result.1 c.loop-line.state c.run_unlike.new.state one made
          c.loop-line.invariant.lawful has;
      known =
          recorded_keeps_sessions c.line-item.result.1 c.loop-line.state c.run_unlike.new.state (map sid_in lines)
          one made c.loop-line.invariant.lawful has c.loop-line.invariant.known;
    }

pub returns : goal.returns
returns c =
    let lines = c.args.recording.now.lines in
    let le = rw c.lines-line-items.ensures.value at c.loop-line-test.false in
    record {
      none = λ none. record {
        first = refl;
        lines = refl;
        recorded =
            subst (λ ls. AllRecorded ls c.args.recording.now.first) (all_taken lines c.loop-line.line-index le)
            c.loop-line.invariant.recorded;
      };
      some = tt;
    }
