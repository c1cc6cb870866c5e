use Rattle.std.proofs.Common.{rules}
use Rattle.retro_cli.proofs.answers.check_input.Goals as goal

pub returns-then-branch-clause-ok : goal.returns-then-branch-clause-ok
returns-then-branch-clause-ok c = (
  record {
    recording = c.in_ok-recording.recording;
    is_log = search rules;
    recorded = c.in_ok-check.ensures c.if-branch.true;
  },
  c.in_ok-from_slice.ensures.items,
)
