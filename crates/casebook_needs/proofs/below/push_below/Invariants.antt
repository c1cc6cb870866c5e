-- The paths so far, and those that are left.
use Rattle.std.proofs.Common.{◌≡◌, ◌++◌, List, drop}
use Rattle.std.specs.List.{filter}
use Rattle.retro_path.specs.Path.{PathValue}
use Rattle.casebook_needs.specs.Needs.{is_below_any}
use Rattle.casebook_needs.specs.inner.Sets.{HasPaths}
use Rattle.casebook_needs.proofs.below.push_below.Given as goal

abbrev pub invariant-loop-path : goal.invariant-loop-path
invariant-loop-path l = (dirs : List PathValue) → HasPaths l.directories dirs
    → l.below.items ++ filter (is_below_any dirs) (drop l.path-index l.paths)
    ≡ l.initial.below.items ++ filter (is_below_any dirs) l.paths
