-- The lines so far, and those of the changes that are left.
use Rattle.std.proofs.Common.{◌≡◌, ◌++◌, drop, map}
use Rattle.casebook_compare.specs.Words.{line_of_change}
use Rattle.casebook_compare.proofs.words.push_differences.Given as goal

abbrev pub invariant-loop-one : goal.invariant-loop-one
invariant-loop-one l =
    l.lines.items ++ map (line_of_change l.history l.folder) (drop l.one-index l.changed)
    ≡ l.fn.lines.items ++ map (line_of_change l.history l.folder) l.changed
