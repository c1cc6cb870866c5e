-- The changes so far, and those of the entries that are left.
use Rattle.std.proofs.Common.{◌≡◌, ◌++◌, map}
use Rattle.std.specs.List.{filter}
use Rattle.std.specs.FinMap as finmap
use Rattle.casebook_watch.specs.Seen.{is_gone, passes_from}
use Rattle.casebook_watch.specs.Delta.{delta, is_other, new_sight, no_sight}
use Rattle.casebook_watch.proofs.delta.delta_between.Given as goal

abbrev pub invariant-loop-path : goal.invariant-loop-path
invariant-loop-path l =
    l.changes.items ++ map new_sight (filter (passes_from is_other l.before) l.path-iterator)
    ≡ map new_sight (filter (passes_from is_other l.before) (finmap.entries l.after))

abbrev pub invariant-loop-path-2 : goal.invariant-loop-path-2
invariant-loop-path-2 l =
    l.changes.items ++ map no_sight (filter (is_gone l.after) l.path-iterator)
    ≡ delta l.before l.after
