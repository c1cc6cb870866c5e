use Rattle.retro_tree.proofs.ExactOverlays.{tight_values}
use Rattle.retro_tree.proofs.overlay_laws.exact_overlays.Goals as goal

pub returns-clause-values : goal.returns-clause-values
returns-clause-values c = tight_values
