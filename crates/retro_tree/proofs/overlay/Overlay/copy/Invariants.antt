use Rattle.std.proofs.Common.{◌≡◌}
use Rattle.retro_tree.proofs.OverlayLemmas.{entries_in_turn}
use Rattle.retro_tree.proofs.overlay.Overlay.copy.Given as goal

abbrev pub invariant-loop-cell : goal.invariant-loop-cell
invariant-loop-cell l = entries_in_turn l.cell-iterator l.copy ≡ l.self
