use Rattle.retro_tree.proofs.Results.{on_ok}
use Rattle.casebook_folder.specs.Steps.{after_steps}
use Rattle.casebook_restore.proofs.Carried.{are_repaired}
use Rattle.casebook_restore.proofs.Placing.{one}
use Rattle.casebook_restore.proofs.carrying.carry_out.Goals as goal

pub returns-clause-repaired : goal.returns-clause-repaired
returns-clause-repaired g c =
    on_ok c.apply.result _ _
    (λ some. one (g.F.Folder.first c.args.folder.now) _ _ some
    (λ first restored task is seen. are_repaired task.recorded task.repaired task.given
    (after_steps (g.F.Folder.made c.args.folder.now) first) c.args.plan.now.rows.items c.args.rows.now.items.items
    (after_steps (g.F.Folder.made c.apply.new.folder) first) is.planned seen c.requires.rows restored))
    c.apply.ensures.restored
