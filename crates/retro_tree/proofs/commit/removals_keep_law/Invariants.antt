use Rattle.std.proofs.Common.{◌≡◌, vec_len}
use Rattle.std.specs.List.{list_all}
use Rattle.retro_tree.specs.inner.CommitSteps.{keeps_law, path_of}
use Rattle.retro_tree.proofs.commit.removals_keep_law.Given as goal

abbrev pub invariant-loop-cell : goal.invariant-loop-cell
invariant-loop-cell l =
    list_all (λ e. keeps_law (path_of e.0) l.tree) l.fn.removals.items
    ≡ list_all (λ e. keeps_law (path_of e.0) l.tree) l.removals.items

abbrev pub decreases-loop-cell : goal.decreases-loop-cell
decreases-loop-cell l = vec_len l.removals
