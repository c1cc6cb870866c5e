use Rattle.std.proofs.Common.{sym, ap, ◌∙◌}
use Rattle.std.specs.FinMap as map
use Rattle.std.specs.Cmp.{nat_cmp_total}
use Rattle.retro_tree.proofs.MapLemmas.{get_made}
use Rattle.casebook_about.proofs.label_map.LabelMap.get.Goals as goal

pub returns : goal.returns
returns c =
    c.get.ensures.value ∙ sym (get_made nat_cmp_total c.self.inside.texts.entries c.args.number)
    ∙ ap (λ m. map.get m c.args.number) c.self.view_is
