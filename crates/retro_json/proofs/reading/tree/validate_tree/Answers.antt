use Rattle.std.proofs.Common.{sym}
use Rattle.std.proofs.lemmas.Result.{IfOk-weaker}
use Rattle.retro_json.proofs.Limits.{tree_by_law}
use Rattle.retro_json.proofs.reading.tree.validate_tree.Goals as goal

pub returns-clause-value : goal.returns-clause-value
returns-clause-value c =
    IfOk-weaker c.validate.result _ _ (λ lawful h. sym (tree_by_law lawful c.args.state.now c.requires h))
    c.validate.ensures.exact
