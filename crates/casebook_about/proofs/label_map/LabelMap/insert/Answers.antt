use Rattle.std.proofs.Common.{ap, ◌∙◌}
use Rattle.std.specs.FinMap as map
use Rattle.std.specs.Cmp.{nat_cmp_total}
use Rattle.std.specs.FinMap.{nat_cmp-IsAntisymmetric}
use Rattle.retro_tree.proofs.MapLemmas.{made_insert}
use Rattle.casebook_about.proofs.label_map.LabelMap.insert.Goals as goal

pub returns-clause-ok : goal.returns-clause-ok
returns-clause-ok c =
    made_insert nat_cmp_total nat_cmp-IsAntisymmetric c.self.inside.texts.entries c.insert.new.self.entries c.args.number
    c.args.text c.in_ok-insert.ensures.updates.0
    ∙ ap (λ m. map.insert m c.args.number c.args.text) c.self.view_is
