use Rattle.std.proofs.Common.{sym, ◌∙◌}
use Rattle.retro_syntax.proofs.DepthLemmas.{list-fits}
use Rattle.retro_syntax.proofs.depth.is_shallow.Goals as goal

pub returns : goal.returns
returns c = c.list_fits.ensures ∙ sym (list-fits c.args.list.now 32)
