use Rattle.std.proofs.Common.{◌≡◌, ◌++◌, take}
use Rattle.std.specs.Prelude.{flat_map}
use Rattle.casebook_page.specs.Told.{undecided_told}
use Rattle.casebook_page.proofs.restore.push_all_undecided.Given as goal

abbrev pub invariant-loop-path : goal.invariant-loop-path
invariant-loop-path l = l.html ≡ l.fn.html ++ flat_map undecided_told (take l.path-index l.paths)
