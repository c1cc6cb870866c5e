-- The lemmas that the overlay's calls need.
use Rattle.retro_tree.proofs.OverlayLemmas.{nothing_set}
use Rattle.retro_tree.proofs.OverlayChanges.{overlays_set, changing}
use Rattle.retro_tree.proofs.CommittedChanges.{committed_none, committing}
use Rattle.retro_tree.proofs.Fitting.{fits_none, fitting}
use Rattle.retro_tree.proofs.ValueEntries.{values}

pub ruleset new_overlay = (nothing_set, committed_none, fits_none, values)

pub ruleset insertion = (overlays_set, fitting, values)

pub ruleset changes = (changing, committing, fitting)
