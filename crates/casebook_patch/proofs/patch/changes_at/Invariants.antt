use Rattle.std.proofs.Common.{◌≡◌, map, take}
use Rattle.std.specs.List.{All}
use Rattle.casebook_patch.specs.Trees.{IsChangeBetween}
use Rattle.casebook_patch.proofs.patch.changes_at.Given as goal

abbrev pub invariant-loop-path : goal.invariant-loop-path
invariant-loop-path l = record {
  paths : map (λ c. c.path) l.changes.items ≡ map (λ path. path.now) (take l.path-index l.paths);
  each : All (IsChangeBetween l.before l.after) l.changes.items;
}
