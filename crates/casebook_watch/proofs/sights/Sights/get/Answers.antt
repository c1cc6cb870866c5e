use Rattle.std.proofs.Common.{sym, ap, ◌∙◌}
use Rattle.std.specs.FinMap as map
use Rattle.retro_path.specs.Order.{path_total}
use Rattle.retro_tree.proofs.MapLemmas.{get_made}
use Rattle.casebook_watch.proofs.sights.Sights.get.Goals as goal

pub returns : goal.returns
returns c =
    c.get.ensures.value ∙ sym (get_made path_total c.self.inside.sights.entries c.args.path.now)
    ∙ ap (λ m. map.get m c.args.path.now) c.self.view_is
