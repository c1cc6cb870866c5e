-- The lines so far, and those of the paths that are left.
use Rattle.std.proofs.Common.{◌≡◌, ◌++◌, drop, map}
use Rattle.casebook_restore.specs.Words.{unkept_line}
use Rattle.casebook_restore.proofs.words.push_unkept.Given as goal

abbrev pub invariant-loop-one : goal.invariant-loop-one
invariant-loop-one l =
    l.lines.items ++ map unkept_line (drop l.one-index l.unkept)
    ≡ l.fn.lines.items ++ map unkept_line l.unkept
