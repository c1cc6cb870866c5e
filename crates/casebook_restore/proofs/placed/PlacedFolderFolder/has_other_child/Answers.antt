use Rattle.casebook_restore.proofs.Placing.{if_ok, other_child, some_placed}
use Rattle.casebook_restore.proofs.placed.PlacedFolderFolder.has_other_child.Goals as goal

pub returns-clause-ok : goal.returns-clause-ok
returns-clause-ok g c =
    let folder = c.args.self.now in
    some_placed (g.F.Folder.first folder.folder) folder.at _ _ c.has_other_child.ensures.ok
    (λ f. if_ok c.has_other_child.result _ _
    (λ other is.
    let moved = other_child folder.at (g.F.Folder.made folder.folder) f c.args.path.now c.in_ok-inside.inside
    c.args.names.now c.in_ok-inside.ensures.ok in
    (λ yes. moved.0 (is.0 yes), λ has. is.1 (moved.1 has))))
