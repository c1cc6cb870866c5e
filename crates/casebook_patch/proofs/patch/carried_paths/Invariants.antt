use Rattle.std.proofs.Common.{◌≡◌, map, take}
use Rattle.casebook_patch.specs.Trees.{is_carried, paths_where}
use Rattle.casebook_patch.proofs.patch.carried_paths.Given as goal

abbrev pub invariant-loop-entry : goal.invariant-loop-entry
invariant-loop-entry l =
    map (λ path. path.now) l.paths.items ≡ paths_where (is_carried l.before l.after) (take l.entry-index l.changed)
