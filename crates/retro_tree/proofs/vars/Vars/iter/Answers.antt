use Rattle.std.proofs.Common.{ap, sym, ◌∙◌}
use Rattle.std.specs.FinMap as map
use Rattle.retro_tree.specs.Order.{text_total, text_exact}
use Rattle.retro_tree.proofs.MapLemmas.{made_entries}
use Rattle.retro_tree.proofs.vars.Vars.iter.Goals as goal

pub returns : goal.returns
returns c = c.iter.ensures.rest
    ∙ sym (made_entries text_total text_exact c.self.inside.values.entries c.iter.ensures.ordered)
    ∙ ap map.entries c.self.view_is
