-- The changes so far, and those of the paths that are left.
use Rattle.std.proofs.Common.{◌≡◌, ◌++◌, map}
use Rattle.casebook_typed.specs.Values.{change_value}
use Rattle.casebook_typed.specs.inner.Few.{change_here}
use Rattle.casebook_typed.proofs.seen.push_changes.Given as goal

abbrev pub invariant-loop-path : goal.invariant-loop-path
invariant-loop-path l =
    map change_value l.changes.items ++ map (change_here l.after l.contents) l.path-iterator.rest.items
    ≡ map change_value l.fn.changes.items ++ map (change_here l.after l.contents) l.fn.paths.items
