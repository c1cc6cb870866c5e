use Rattle.std.proofs.Common.{sym, ◌∙◌}
use Rattle.retro_utils.proofs.Removing.{path_removed, path_left}
use Rattle.retro_utils.proofs.utilities.rm.remove_path.Goals as goal

pub returns-in-None-clause-means : goal.returns-in-None-clause-means
returns-in-None-clause-means g c =
    path_removed _ _ c.args.how c.args.path _ c.keeps_law.ensures.lawful c.in_ok-kind.ensures.means
    (sym c.not_removed.ensures ∙ c.in-None.is)

pub returns-clause-means : goal.returns-clause-means
returns-clause-means g c =
    path_left _ _ c.args.how c.args.path _ c.in-Some.reason c.keeps_law.ensures.lawful c.in_ok-kind.ensures.means
    (sym c.not_removed.ensures ∙ c.in-Some.is)
