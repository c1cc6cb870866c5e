use Rattle.std.proofs.Common.{◌≡◌, ◌++◌, map}
use Rattle.std.specs.List.{filter}
use Rattle.casebook_explain.specs.Places.{is_ours}
use Rattle.casebook_account.specs.Ours.{our_paths}
use Rattle.casebook_account.proofs.ours.our_paths.Given as goal

abbrev pub invariant-loop-path : goal.invariant-loop-path
invariant-loop-path l =
    l.paths.items ++ filter is_ours (map (λ e. e.0) l.path-iterator) ≡ our_paths l.tree
