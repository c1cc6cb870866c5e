use Rattle.std.proofs.Math.ListN.{drop_of_length-le}
use Rattle.casebook_folder.proofs.Planned.{along_end}
use Rattle.casebook_folder.proofs.planning.plan.Goals as goal

pub returns-clause-plan : goal.returns-clause-plan
returns-clause-plan g c =
    along_end _ _ _ c.args.paths.now c.loop-path.path-index c.loop-path.rows.items
    (drop_of_length-le c.args.paths.now c.loop-path-test.false) c.loop-path.invariant.plan
