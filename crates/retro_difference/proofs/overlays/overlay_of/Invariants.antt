-- What the loop keeps.
use Rattle.std.proofs.Common.{◌≡◌, drop, ◌||◌}
use Rattle.std.specs.FinMap as map
use Rattle.retro_tree.specs.Notes.{after, changes}
use Rattle.retro_tree.specs.Overlay.{Overlays, Fits}
use Rattle.retro_tree.specs.Commit.{committed}
use Rattle.retro_tree.specs.declared.cell.Cell.{Cell}
use Rattle.retro_tree.specs.declared.state.State.{State}
use Rattle.retro_difference.proofs.overlays.overlay_of.Given as goal

abbrev pub invariant-loop-note : goal.invariant-loop-note
invariant-loop-note l = record {
  over : (s : State) → Overlays l.overlay s (committed l.overlay s);
  rest : (s : State) → after (drop l.note-index l.notes) (committed l.overlay s) ≡ after l.notes s;
  cells : (c : Cell) → (map.contains_key l.overlay c || changes (drop l.note-index l.notes) c) ≡ changes l.notes c;
  fits : Fits l.overlay;
}
