use Rattle.std.proofs.Common.{◌≡◌, ◌++◌, drop, map}
use Rattle.retro_path.specs.Name.{AllNames}
use Rattle.retro_path.proofs.path.Path.of_names.Given as goal

abbrev pub invariant-loop-name : goal.invariant-loop-name
invariant-loop-name l = record {
  names : AllNames l.path;
  all : l.path ++ map (λ name. name.now) (drop l.name-index l.names) ≡ map (λ name. name.now) l.names;
}
