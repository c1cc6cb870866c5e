use Rattle.std.proofs.Common.{◌≡◌, ◌++◌, take}
use Rattle.std.specs.Prelude.{flat_map}
use Rattle.casebook_screen.specs.Told.{undecided_told}
use Rattle.casebook_screen.proofs.restore.push_undecided.Given as goal

abbrev pub invariant-loop-path : goal.invariant-loop-path
invariant-loop-path l = l.screen ≡ l.fn.screen ++ flat_map undecided_told (take l.path-index l.paths)
