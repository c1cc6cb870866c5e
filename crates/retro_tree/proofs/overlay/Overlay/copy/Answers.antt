use Rattle.std.proofs.Common.{◌∙◌}
use Rattle.retro_tree.proofs.OverlayLemmas.{entries_in_turn, overlays_again}
use Rattle.retro_tree.proofs.overlay.Overlay.copy.Goals as goal

pub loop-cell-init : goal.loop-cell-init
loop-cell-init c =
    let all = c.into_iter-cell-iterator.ensures.into_iter_gives ∙ c.iter-cell-items.ensures in
    (λ i. entries_in_turn (all i) (c.new-copy.ensures.value i)) ∙ overlays_again c.args.self.now
