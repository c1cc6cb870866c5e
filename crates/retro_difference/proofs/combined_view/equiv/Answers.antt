use Rattle.retro_difference.proofs.Holding.{holds_in_repaired}
use Rattle.retro_difference.proofs.combined_view.equiv.Goals as goal

pub returns : goal.returns
returns g c =
    holds_in_repaired c.holds.result c.args.notes.now c.args.overlay.now (g.V.View.state c.args.view.now)
    c.new-repaired.result c.holds.ensures c.new-repaired.ensures
