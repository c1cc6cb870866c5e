use Rattle.std.proofs.Common.{Some, sym, ap, ◌∙◌}
use Rattle.std.specs.Option.{option_copied}
use Rattle.std.specs.FinMap as map
use Rattle.retro_tree.specs.CellOrder.{cell_total}
use Rattle.retro_tree.proofs.MapLemmas.{get_made}
use Rattle.retro_history.proofs.cell_histories.CellHistories.get.Goals as goal

pub returns-in-Some : goal.returns-in-Some
returns-in-Some c =
    ap Some c.get-in-Some.ensures ∙ sym (ap option_copied c.in-Some.is) ∙ c.get.ensures.value
    ∙ sym (get_made cell_total c.self.inside.histories.entries c.args.cell.now)
    ∙ ap (λ m. map.get m c.args.cell.now) c.self.view_is

pub returns-in-None : goal.returns-in-None
returns-in-None c =
    sym (ap option_copied c.in-None.is) ∙ c.get.ensures.value
    ∙ sym (get_made cell_total c.self.inside.histories.entries c.args.cell.now)
    ∙ ap (λ m. map.get m c.args.cell.now) c.self.view_is
