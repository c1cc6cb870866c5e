use Rattle.std.proofs.Common.{◌≡◌, ◌++◌, take}
use Rattle.casebook_screen.proofs.unified.push_copies.Given as goal

abbrev pub invariant-loop-other : goal.invariant-loop-other
invariant-loop-other l = l.lines.items ≡ l.fn.lines.items ++ take l.other-index l.others
