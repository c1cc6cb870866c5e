use Rattle.std.proofs.Common.{ap, ◌∙◌}
use Rattle.std.specs.FinMap as map
use Rattle.retro_path.specs.Order.{path_total, path_exact}
use Rattle.retro_tree.proofs.MapLemmas.{made_insert}
use Rattle.casebook_watch.proofs.sights.Sights.insert.Goals as goal

pub returns-clause-ok : goal.returns-clause-ok
returns-clause-ok c =
    made_insert path_total path_exact c.self.inside.sights.entries c.insert.new.self.entries
    c.args.path c.args.sight
    c.in_ok-insert.ensures.updates.0
    ∙ ap (λ m. map.insert m c.args.path c.args.sight) c.self.view_is
