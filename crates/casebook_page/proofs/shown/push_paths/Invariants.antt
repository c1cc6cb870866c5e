use Rattle.std.proofs.Common.{◌≡◌, ◌++◌, map, take}
use Rattle.casebook_page.specs.Told.{path_told}
use Rattle.casebook_page.proofs.shown.push_paths.Given as goal

abbrev pub invariant-loop-path : goal.invariant-loop-path
invariant-loop-path l = l.html ≡ l.fn.html ++ map path_told (take l.path-index l.paths)
