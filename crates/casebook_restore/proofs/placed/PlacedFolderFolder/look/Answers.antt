use Rattle.std.proofs.Common.{◌∙◌}
use Rattle.casebook_restore.proofs.Placing.{found_moved, if_ok, some_placed}
use Rattle.casebook_restore.proofs.placed.PlacedFolderFolder.look.Goals as goal

pub returns-clause-ok : goal.returns-clause-ok
returns-clause-ok g c =
    let folder = c.args.self.now in
    some_placed (g.F.Folder.first folder.folder) folder.at _ _ c.look.ensures.ok
    (λ f. if_ok c.look.result _ _
    (λ found is. is ∙ found_moved folder.at (g.F.Folder.made folder.folder) f c.args.path.now c.in_ok-inside.inside
    c.in_ok-inside.ensures.ok))
