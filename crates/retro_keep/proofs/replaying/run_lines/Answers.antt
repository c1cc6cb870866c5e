use Rattle.std.proofs.Common.{ap, ◌∙◌}
use Rattle.retro_shell.specs.Line.{line}
use Rattle.retro_keep.proofs.Replays.{session_at, sessions_after, runs_next}
use Rattle.retro_keep.proofs.replaying.run_lines.Goals as goal

pub step-requires-clause-session : goal.step-requires-clause-session
step-requires-clause-session c =
    session_at c.loop-line.state c.args.lines.now c.loop-line.line-index c.line-item.result c.loop-line-test.true
    c.line-item.is c.loop-line.invariant.known

pub loop-line-preserved : goal.loop-line-preserved
loop-line-preserved c = record {
  runs =
      runs_next c.loop-line.state c.step.new.state c.in_ok-text.text c.loop-line.outputs.items c.push.new.self.items
      c.args.lines.now c.loop-line.line-index c.line-item.result _
      c.loop-line-test.true c.line-item.is (c.in_ok-text.ensures.means ∙ ap (λ t. line c.line-item.result.sid t
      c.loop-line.state) c.as_str.ensures) c.in_ok-push.ensures.items c.loop-line.invariant.runs;
  lawful = c.in_ok-text.ensures.lawful;
  known =
      sessions_after c.loop-line.state c.step.new.state c.args.lines.now c.loop-line.line-index c.line-item.result
      c.loop-line-test.true c.line-item.is c.in_ok-text.ensures.sessions c.loop-line.invariant.known;
}
