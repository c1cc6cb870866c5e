use Rattle.std.proofs.Common.{◌∙◌, ap, inl, inr, sym}
use Rattle.std.specs.Prelude.{option_map}
use Rattle.retro_tree.proofs.Results.{on_err, on_ok}
use Rattle.casebook_folder.specs.Found.{found_eq}
use Rattle.casebook_restore.specs.inner.Placed.{moved_steps, placed, placed_parts}
use Rattle.casebook_restore.proofs.Placing.{found_moved, others_moved, part_moved, some_placed, step_moved, unmoved}
use Rattle.casebook_restore.proofs.placed.PlacedFolderFolder.put.Goals as goal

pub returns-clause-ok : goal.returns-clause-ok
returns-clause-ok g c =
    on_ok c.put.result _ _
    (step_moved c.args.self.now.at c.args.path.now c.in_ok-inside.inside c.args.before.now c.args.after.now
    (g.F.Folder.made c.args.self.now.folder) (g.F.Folder.made c.put.new.self) c.in_ok-inside.ensures.ok)
    c.put.ensures.ok

pub returns-clause-err : goal.returns-clause-err
returns-clause-err g c =
    on_err c.put.result _ _
    (λ is. elim is [
      | inl same ↦ inl (ap (moved_steps c.args.self.now.at) same)
      | inr more ↦ inr (step_moved c.args.self.now.at c.args.path.now c.in_ok-inside.inside c.args.before.now
          c.args.after.now (g.F.Folder.made c.args.self.now.folder) (g.F.Folder.made c.put.new.self)
          c.in_ok-inside.ensures.ok more)
    ])
    c.put.ensures.err

pub returns-clause-looked : goal.returns-clause-looked
returns-clause-looked g c =
    let folder = c.args.self.now in
    some_placed (g.F.Folder.first folder.folder) folder.at _ _ c.put.ensures.looked
    (λ f looked other. ap (moved_steps folder.at) (looked (λ same. other
    (sym (found_moved folder.at (g.F.Folder.made folder.folder) f c.args.path.now c.in_ok-inside.inside
    c.in_ok-inside.ensures.ok) ∙ same))))

pub returns-clause-changed_only : goal.returns-clause-changed_only
returns-clause-changed_only g c =
    let folder = c.args.self.now in
    some_placed (g.F.Folder.first folder.folder) folder.at _ _ c.put.ensures.changed_only
    (λ f changed is.
    sym (ap (λ x. found_eq x c.args.before.now)
    (found_moved folder.at (g.F.Folder.made folder.folder) f c.args.path.now c.in_ok-inside.inside
    c.in_ok-inside.ensures.ok))
    ∙ changed is)

pub returns-in_err-inside-clause-other_parts : goal.returns-in_err-inside-clause-other_parts
returns-in_err-inside-clause-other_parts g c =
    let folder = c.args.self.now in
    unmoved (option_map (placed folder.at) (g.F.Folder.first folder.folder)) c.args.path.now
    (placed_parts folder.at (g.F.Folder.parts folder.folder))

pub returns-clause-other_parts : goal.returns-clause-other_parts
returns-clause-other_parts g c =
    let folder = c.args.self.now in
    some_placed (g.F.Folder.first folder.folder) folder.at _ _ c.put.ensures.other_parts
    (λ f stay. others_moved folder.at c.args.path.now c.in_ok-inside.inside (g.F.Folder.parts folder.folder)
    (g.F.Folder.parts c.put.new.self) c.in_ok-inside.ensures.ok stay)

pub returns-clause-no_part : goal.returns-clause-no_part
returns-clause-no_part g c =
    let folder = c.args.self.now in
    on_ok c.put.result _ _
    (λ none. some_placed (g.F.Folder.first folder.folder) folder.at _ _ none
    (λ f is. part_moved folder.at c.args.path.now c.in_ok-inside.inside (g.F.Folder.parts c.put.new.self)
    c.in_ok-inside.ensures.ok ∙ is))
    c.put.ensures.no_part
