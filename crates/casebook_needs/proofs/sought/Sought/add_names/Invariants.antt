-- The queries so far, and those of the paths that are left.
use Rattle.std.proofs.Common.{◌≡◌, drop}
use Rattle.casebook_needs.specs.Needs.{names_at, same_query}
use Rattle.casebook_needs.specs.inner.Steps.{with_items}
use Rattle.casebook_needs.proofs.sought.Sought.add_names.Given as goal

abbrev pub invariant-loop-path : goal.invariant-loop-path
invariant-loop-path l =
    with_items same_query l.sought (names_at (drop l.path-index l.paths) l.source)
    ≡ with_items same_query l.fn.self (names_at l.paths l.source)
