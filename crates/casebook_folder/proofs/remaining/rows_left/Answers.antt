use Rattle.std.proofs.Common.{sym}
use Rattle.std.proofs.Math.ListN.{drop_of_length-le}
use Rattle.std.proofs.lemmas.Option.{IfSome_then}
use Rattle.casebook_folder.proofs.Leftover.{both_some, along_next, along_end}
use Rattle.casebook_folder.proofs.remaining.rows_left.Goals as goal

pub loop-row-preserved : goal.loop-row-preserved
loop-row-preserved g c =
    both_some (g.F.Folder.first c.args.folder.now) c.loop-row.invariant c.in_ok-add_row.ensures
    (λ first a h. along_next _ _ _ _ _ _ c.loop-row-test.true (sym c.row-item.is) a h)

pub returns-clause-begun : goal.returns-clause-begun
returns-clause-begun g c =
    IfSome_then (g.F.Folder.first c.args.folder.now) c.loop-row.invariant (λ first a. (along_end _ _ _ _ (drop_of_length-le c.args.rows.now c.loop-row-test.false) a).1)
