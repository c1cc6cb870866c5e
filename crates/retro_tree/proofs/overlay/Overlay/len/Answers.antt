use Rattle.std.proofs.Common.{ap, sym, ◌∙◌, length}
use Rattle.std.specs.FinMap as map
use Rattle.retro_tree.specs.CellOrder.{cell_total, cell_exact}
use Rattle.retro_tree.proofs.MapLemmas.{made_entries}
use Rattle.retro_tree.proofs.overlay.Overlay.len.Goals as goal

pub returns : goal.returns
returns c =
    c.len.ensures.len
    ∙ ap length (sym (made_entries cell_total cell_exact c.self.inside.cells.entries c.len.ensures.ordered))
    ∙ ap (λ m. length (map.entries m)) c.self.view_is ∙ sym (map.len-entries c.args.self.now)
