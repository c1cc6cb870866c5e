use Rattle.std.proofs.Common.{sym, ap, ◌∙◌}
use Rattle.std.specs.FinMap as map
use Rattle.retro_tree.specs.Order.{text_total}
use Rattle.retro_tree.proofs.MapLemmas.{get_made}
use Rattle.retro_tree.proofs.vars.Vars.get.Goals as goal

pub returns : goal.returns
returns c = c.get.ensures.value ∙ sym (get_made text_total c.self.inside.values.entries c.args.name.now)
    ∙ ap (λ m. map.get m c.args.name.now) c.self.view_is
