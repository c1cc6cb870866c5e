use Rattle.std.proofs.Common.{ap, sym, ◌∙◌}
use Rattle.std.specs.FinMap as map
use Rattle.std.specs.Cmp.{nat_cmp_total}
use Rattle.std.specs.FinMap.{nat_cmp-IsAntisymmetric}
use Rattle.retro_tree.proofs.MapLemmas.{made_entries}
use Rattle.retro_tree.proofs.session_map.SessionMap.iter.Goals as goal

pub returns : goal.returns
returns c = c.iter.ensures.rest
    ∙ sym (made_entries nat_cmp_total nat_cmp-IsAntisymmetric c.self.inside.sessions.entries
    c.iter.ensures.ordered) ∙ ap map.entries c.self.view_is
