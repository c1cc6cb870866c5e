use Rattle.casebook_folder.proofs.Prefixes.{prefix_of_all, on_err}
use Rattle.casebook_folder.proofs.applying.make_steps.Goals as goal

pub returns-in_err-remove_all-clause-err : goal.returns-in_err-remove_all-clause-err
returns-in_err-remove_all-clause-err g c =
    on_err _ _ (prefix_of_all c.args.rows.now _ _ c.in_err-remove_all.ensures.err)
