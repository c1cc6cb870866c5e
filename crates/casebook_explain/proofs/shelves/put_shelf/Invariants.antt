-- The files that are left, on the shelf of the state so far.
use Rattle.std.proofs.Common.{◌≡◌, ◌+◌}
use Rattle.casebook_explain.specs.Shelves.{with_files}
use Rattle.casebook_explain.proofs.shelves.put_shelf.Given as goal

abbrev pub invariant-loop-before : goal.invariant-loop-before
invariant-loop-before l =
    with_files l.line (l.before-iterator.count + 1) l.before-iterator.iter.rest.items l.state
    ≡ with_files l.line 1 l.fn.files.items l.initial.state
