use Rattle.std.proofs.Common.{◌≡◌, ◌++◌, take}
use Rattle.std.specs.Prelude.{flat_map}
use Rattle.casebook_screen.specs.Told.{leak_told}
use Rattle.casebook_screen.proofs.leaked.push_leaks.Given as goal

abbrev pub invariant-loop-leak : goal.invariant-loop-leak
invariant-loop-leak l =
    l.screen ≡ l.fn.screen ++ flat_map (leak_told l.recording l.names.labels.now) (take l.leak-index l.leaks)
