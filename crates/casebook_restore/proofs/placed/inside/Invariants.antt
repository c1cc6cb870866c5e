use Rattle.std.proofs.Common.{◌≡◌, ◌++◌, Some, map}
use Rattle.std.specs.Prelude.{string_bytes}
use Rattle.retro_path.specs.Path.{below}
use Rattle.casebook_restore.proofs.placed.inside.Given as goal

abbrev pub invariant-loop-name : goal.invariant-loop-name
invariant-loop-name l = Some (map string_bytes l.texts.items ++ l.name-iterator) ≡ below l.at l.path
