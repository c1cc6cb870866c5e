use Rattle.std.proofs.Common.{ap, ◌∙◌}
use Rattle.std.specs.FinMap as map
use Rattle.retro_tree.specs.Order.{text_total, text_exact}
use Rattle.retro_tree.proofs.MapLemmas.{made_remove}
use Rattle.retro_tree.proofs.vars.Vars.remove.Goals as goal

pub returns : goal.returns
returns c =
    made_remove text_total text_exact c.self.inside.values.entries c.remove.new.self.entries c.args.name.now
    c.remove.ensures.updates.0
    ∙ ap (λ m. map.remove m c.args.name.now) c.self.view_is
