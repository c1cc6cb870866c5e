use Rattle.std.proofs.Common.{ap, ◌∙◌}
use Rattle.std.specs.FinMap as map
use Rattle.std.specs.Cmp.{nat_cmp_total}
use Rattle.std.specs.FinMap.{nat_cmp-IsAntisymmetric}
use Rattle.retro_tree.proofs.MapLemmas.{made_insert}
use Rattle.casebook_request.proofs.typed_lines.TypedLines.insert.Goals as goal

pub returns-clause-ok : goal.returns-clause-ok
returns-clause-ok c =
    made_insert nat_cmp_total nat_cmp-IsAntisymmetric c.self.inside.between.entries c.insert.new.self.entries
    c.args.time.number c.is_between-is_between.result c.in_ok-insert.ensures.updates.0
    ∙ ap (λ m. map.insert m c.args.time.number c.is_between-is_between.result) c.self.view_is
    ∙ ap (λ b. map.insert c.args.self.now c.args.time.number b) c.is_between-is_between.ensures
