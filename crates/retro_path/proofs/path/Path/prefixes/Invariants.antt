use Rattle.std.proofs.Common.{◌≡◌, ◌++◌}
use Rattle.retro_path.specs.Name.{AllNames}
use Rattle.retro_path.specs.Path.{prefixes_of}
use Rattle.retro_path.proofs.path.Path.prefixes.Given as goal

abbrev pub invariant-loop-name : goal.invariant-loop-name
invariant-loop-name l = record {
  all : l.prefix ++ l.name-iterator ≡ l.self;
  names : AllNames l.name-iterator;
  prefixes : l.prefixes.items ≡ prefixes_of l.prefix;
}
