use Rattle.std.proofs.Common.{◌≡◌, ◌↔◌, drop}
use Rattle.retro_keep.specs.Recording.{AllLinesAllowed, last_state}
use Rattle.retro_keep.proofs.requirements.make_changes.Given as goal

abbrev pub invariant-loop-line : goal.invariant-loop-line
invariant-loop-line l = record {
  allowed : AllLinesAllowed (drop l.line-index l.lines) l.state ↔ AllLinesAllowed l.lines l.fn.state;
  last : last_state (drop l.line-index l.lines) l.state ≡ last_state l.lines l.fn.state;
}
