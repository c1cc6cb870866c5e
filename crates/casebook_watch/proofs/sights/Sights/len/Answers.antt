use Rattle.std.proofs.Common.{ap, sym, ◌∙◌, length}
use Rattle.std.specs.FinMap as map
use Rattle.retro_path.specs.Order.{path_cmp, path_total, path_exact}
use Rattle.retro_tree.proofs.MapLemmas.{made_entries}
use Rattle.casebook_watch.proofs.sights.Sights.len.Goals as goal

pub returns : goal.returns
returns c =
    let es = c.self.inside.sights.entries in
    c.len.ensures.len
    ∙ ap length (sym (made_entries path_total path_exact es c.len.ensures.ordered))
    ∙ sym (map.len-entries (map.from_entries {R = path_cmp} es)) ∙ ap map.len c.self.view_is
