-- The lines so far, and those of the paths that are left.
use Rattle.std.proofs.Common.{◌≡◌, ◌++◌, drop, map}
use Rattle.casebook_compare.specs.Words.{unread_line}
use Rattle.casebook_compare.proofs.words.push_unread.Given as goal

abbrev pub invariant-loop-one : goal.invariant-loop-one
invariant-loop-one l =
    l.lines.items ++ map (unread_line l.history) (drop l.one-index l.unread)
    ≡ l.fn.lines.items ++ map (unread_line l.history) l.unread
