use Rattle.std.proofs.Common.{ap, ◌∙◌}
use Rattle.std.specs.FinMap as map
use Rattle.retro_path.specs.Order.{path_total, path_exact}
use Rattle.retro_tree.proofs.MapLemmas.{made_remove}
use Rattle.casebook_watch.proofs.sights.Sights.remove.Goals as goal

pub returns : goal.returns
returns c =
    made_remove path_total path_exact c.self.inside.sights.entries c.remove.new.self.entries
    c.args.path.now
    c.remove.ensures.updates.0
    ∙ ap (λ m. map.remove m c.args.path.now) c.self.view_is
