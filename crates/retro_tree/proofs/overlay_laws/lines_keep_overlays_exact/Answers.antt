use Rattle.retro_tree.proofs.ExactOverlays.{step_exact}
use Rattle.retro_tree.proofs.overlay_laws.lines_keep_overlays_exact.Goals as goal

pub returns-clause-step : goal.returns-clause-step
returns-clause-step c = step_exact
