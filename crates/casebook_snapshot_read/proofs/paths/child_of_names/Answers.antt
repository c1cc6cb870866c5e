use Rattle.std.proofs.Common.{◌∙◌}
use Rattle.std.proofs.lemmas.Result.{IfOk-weaker}
use Rattle.casebook_snapshot_read.proofs.Ends.{child_at_end}
use Rattle.casebook_snapshot_read.proofs.paths.child_of_names.Goals as goal

pub returns-in-len1-up : goal.returns-in-len1-up
returns-in-len1-up c =
    IfOk-weaker c.child_of.result _ _ (λ child is. is ∙ child_at_end c.args.names.now _ c.in-len1-up.len_at_least)
    c.child_of.ensures
