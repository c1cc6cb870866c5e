use Rattle.std.proofs.Common.{◌≡◌, ◌++◌, map, take}
use Rattle.casebook_screen.specs.Told.{path_told}
use Rattle.casebook_screen.proofs.shown.push_paths.Given as goal

abbrev pub invariant-loop-path : goal.invariant-loop-path
invariant-loop-path l = l.screen ≡ l.fn.screen ++ map path_told (take l.path-index l.paths)
