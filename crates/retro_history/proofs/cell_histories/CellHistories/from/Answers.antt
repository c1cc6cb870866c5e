use Rattle.std.proofs.Common.{◌≡◌, Bool, true, false, ◌&&◌, ap, sym, refl, ◌∙◌}
use Rattle.std.specs.List.{filter}
use Rattle.std.specs.Ordering.{is_le}
use Rattle.std.specs.FinMap as map
use Rattle.retro_tree.specs.CellOrder.{cell_cmp, cell_total, cell_exact}
use Rattle.retro_tree.proofs.MapLemmas.{made_entries}
use Rattle.retro_history.proofs.cell_histories.CellHistories.from.Goals as goal

right : (b : Bool) → (b && true) ≡ b
right true = refl
right false = refl

pub returns : goal.returns
returns c =
    let es = c.self.inside.histories.entries in
    let k = c.args.cell.now in
    c.range.ensures.between tt
    ∙ (λ i. filter (λ e. right (is_le (cell_cmp k e.0)) i) es)
    ∙ ap (filter (λ e. is_le (cell_cmp k e.0)))
    (sym (made_entries cell_total cell_exact es c.range.ensures.ordered) ∙ ap map.entries c.self.view_is)
