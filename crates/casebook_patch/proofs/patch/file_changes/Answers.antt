use Rattle.std.proofs.Common.{◌≡◌, ◌≢◌, ap, map, subst, sym, ◌∙◌}
use Rattle.std.specs.List.{All}
use Rattle.std.specs.Borrow.{Bor}
use Rattle.retro_path.specs.Path.{PathValue}
use Rattle.casebook_patch.specs.Trees.{file_at, is_carried, paths_where}
use Rattle.casebook_patch.proofs.TreeLemmas.{all_borrowed, all_differ}
use Rattle.casebook_patch.proofs.patch.file_changes.Goals as goal

pub changes_at-requires : goal.changes_at-requires
changes_at-requires c =
    let before = c.args.before.now in
    let after = c.args.after.now in
    let changed = c.in_ok-changed.changed.items in
    let paths : map (λ (p : Bor PathValue). p.now) c.as_slice-2.result.now ≡ paths_where (is_carried before after) changed =
    ap (map (λ (p : Bor PathValue). p.now)) c.as_slice-2.ensures.value
    ∙ c.in_ok-paths.ensures
    ∙ ap (paths_where (is_carried before after)) c.as_slice.ensures.value in
    all_borrowed (λ p. file_at p before ≢ file_at p after) c.as_slice-2.result.now
    (subst (All (λ p. file_at p before ≢ file_at p after)) (sym paths) (all_differ before after changed c.in_ok-changed.ensures))
