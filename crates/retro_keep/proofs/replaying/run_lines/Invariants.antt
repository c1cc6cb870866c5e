use Rattle.std.proofs.Common.{◌≡◌, IsTrue, map, drop}
use Rattle.retro_tree.specs.Lawful.{IsLawful}
use Rattle.retro_keep.specs.Script.{have_sessions, sid_of}
use Rattle.retro_keep.specs.Runs.{outcome}
use Rattle.retro_keep.proofs.Replays.{with_front}
use Rattle.retro_keep.proofs.replaying.run_lines.Given as goal

abbrev pub invariant-loop-line : goal.invariant-loop-line
invariant-loop-line l = record {
  runs : with_front l.outputs.items (outcome (drop l.line-index l.lines) l.state) ≡ outcome l.lines l.fn.first;
  lawful : IsLawful l.state;
  known : IsTrue (have_sessions l.state (map sid_of (drop l.line-index l.lines)));
}
