use Rattle.retro_tree.proofs.ValueEntries.{values_hide}
use Rattle.retro_tree.proofs.overlay_laws.overlays_follow_the_state.Goals as goal

pub returns-clause-hidden : goal.returns-clause-hidden
returns-clause-hidden c = values_hide
