use Rattle.std.proofs.Common.{ap, ◌∙◌}
use Rattle.std.specs.FinMap as map
use Rattle.std.specs.FinMap.{nat_cmp-IsAntisymmetric}
use Rattle.std.specs.Cmp.{nat_cmp_total}
use Rattle.retro_tree.proofs.MapLemmas.{made_remove}
use Rattle.retro_tree.proofs.session_map.SessionMap.remove.Goals as goal

pub returns : goal.returns
returns c =
    made_remove nat_cmp_total nat_cmp-IsAntisymmetric c.self.inside.sessions.entries c.remove.new.self.entries
    c.args.sid c.remove.ensures.updates.0
    ∙ ap (λ m. map.remove m c.args.sid) c.self.view_is
