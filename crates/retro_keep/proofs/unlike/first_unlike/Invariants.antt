use Rattle.std.proofs.Common.{IsTrue, ◌≡◌, map, take}
use Rattle.retro_tree.specs.Lawful.{IsLawful}
use Rattle.retro_keep.specs.Script.{have_sessions}
use Rattle.retro_keep.specs.Recording.{AllRecorded, last_state, sid_in}
use Rattle.retro_keep.proofs.unlike.first_unlike.Given as goal

abbrev pub invariant-loop-line : goal.invariant-loop-line
invariant-loop-line l = record {
  recorded : AllRecorded (take l.line-index l.recording.lines) l.recording.first;
  state : l.state ≡ last_state (take l.line-index l.recording.lines) l.recording.first;
  lawful : IsLawful l.state;
  known : IsTrue (have_sessions l.state (map sid_in l.recording.lines));
}
