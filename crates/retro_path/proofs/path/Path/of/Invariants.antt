use Rattle.std.proofs.Common.{◌≡◌, ◌++◌, map, string_bytes}
use Rattle.retro_path.specs.Name.{AllNames}
use Rattle.retro_path.proofs.path.Path.of.Given as goal

abbrev pub invariant-loop-text : goal.invariant-loop-text
invariant-loop-text l = record {
  names : AllNames l.path;
  all : l.path ++ map string_bytes l.text-iterator.rest.items ≡ map string_bytes l.fn.texts.items;
}
