use Rattle.retro_tree.proofs.ExactOverlays.{exact_fits, exact_state}
use Rattle.retro_tree.proofs.overlay_laws.exact_overlays_make_the_state.Goals as goal

pub returns-clause-fits : goal.returns-clause-fits
returns-clause-fits c = exact_fits

pub returns-clause-state : goal.returns-clause-state
returns-clause-state c = exact_state
