use Rattle.std.proofs.Common.{◌∙◌, ◌||◌, ◌++◌, ap, sym}
use Rattle.retro_tree.proofs.Results.{on_ok}
use Rattle.retro_redo.specs.inner.Altered.{altered_by, changed_paths, has_path}
use Rattle.retro_redo.proofs.AlteredPaths.{both_added}
use Rattle.retro_redo.proofs.altered_paths.AlteredPaths.add_line.Goals as goal

pub returns-in_ok-add_changed-in-Take : goal.returns-in_ok-add_changed-in-Take
returns-in_ok-add_changed-in-Take c =
    let old = c.args.self.now in
    let recorded = changed_paths c.args.line.now.1.notes in
    on_ok c.add_changed-in-Take-2.result _ _ (λ two p.
    both_added old c.add_changed-in-Take.new.self c.add_changed-in-Take-2.new.self recorded
    (changed_paths c.notes.result.now) c.in_ok-add_changed-in-Take.ensures two p
    ∙ ap (λ ns. has_path p old || has_path p (recorded ++ changed_paths ns)) c.notes.ensures.value
    ∙ ap (λ step. has_path p old || has_path p (altered_by c.args.line.now step)) (sym c.in-Take.is))
    c.add_changed-in-Take-2.ensures
