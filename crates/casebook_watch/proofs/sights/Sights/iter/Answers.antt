use Rattle.std.proofs.Common.{ap, sym, ◌∙◌}
use Rattle.std.specs.FinMap as map
use Rattle.retro_path.specs.Order.{path_total, path_exact}
use Rattle.retro_tree.proofs.MapLemmas.{made_entries}
use Rattle.casebook_watch.proofs.sights.Sights.iter.Goals as goal

pub returns : goal.returns
returns c =
    c.iter.ensures.rest
    ∙ sym (made_entries path_total path_exact c.self.inside.sights.entries c.iter.ensures.ordered)
    ∙ ap map.entries c.self.view_is
