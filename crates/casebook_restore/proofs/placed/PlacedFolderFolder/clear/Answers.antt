use Rattle.std.proofs.Common.{◌∙◌, ap}
use Rattle.std.specs.Prelude.{option_map}
use Rattle.retro_tree.proofs.Results.{on_ok}
use Rattle.casebook_restore.specs.inner.Placed.{moved_steps, placed, placed_parts}
use Rattle.casebook_restore.proofs.Placing.{others_moved, part_moved, some_placed, unmoved}
use Rattle.casebook_restore.proofs.placed.PlacedFolderFolder.clear.Goals as goal

pub returns-in_err-inside-clause-other_parts : goal.returns-in_err-inside-clause-other_parts
returns-in_err-inside-clause-other_parts g c =
    let folder = c.args.self.now in
    unmoved (option_map (placed folder.at) (g.F.Folder.first folder.folder)) c.args.path.now
    (placed_parts folder.at (g.F.Folder.parts folder.folder))

pub returns-clause-other_parts : goal.returns-clause-other_parts
returns-clause-other_parts g c =
    let folder = c.args.self.now in
    some_placed (g.F.Folder.first folder.folder) folder.at _ _ c.clear.ensures.other_parts
    (λ f stay. others_moved folder.at c.args.path.now c.in_ok-inside.inside (g.F.Folder.parts folder.folder)
    (g.F.Folder.parts c.clear.new.self) c.in_ok-inside.ensures.ok stay)

pub returns-clause-no_part : goal.returns-clause-no_part
returns-clause-no_part g c =
    let folder = c.args.self.now in
    on_ok c.clear.result _ _
    (λ none. some_placed (g.F.Folder.first folder.folder) folder.at _ _ none
    (λ f is. part_moved folder.at c.args.path.now c.in_ok-inside.inside (g.F.Folder.parts c.clear.new.self)
    c.in_ok-inside.ensures.ok ∙ is))
    c.clear.ensures.no_part

pub returns-clause-made : goal.returns-clause-made
returns-clause-made g c = ap (moved_steps c.args.self.now.at) c.clear.ensures.made
