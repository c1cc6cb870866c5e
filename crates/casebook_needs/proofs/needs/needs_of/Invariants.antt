-- The needs so far, and those of the queries that are left.
use Rattle.std.proofs.Common.{◌≡◌, ◌++◌, map}
use Rattle.casebook_needs.specs.FirstOfEach.{first_of_each}
use Rattle.casebook_needs.specs.Line.{line_value}
use Rattle.casebook_needs.specs.Needs.{asked_of, need_of, same_query}
use Rattle.casebook_needs.proofs.needs.needs_of.Given as goal

abbrev pub invariant-loop-query : goal.invariant-loop-query
invariant-loop-query g l =
    l.needs.items
    ++ map (need_of l.line.session (g.V.View.state l.view)) l.query-iterator.rest.items
    ≡ map (need_of l.line.session (g.V.View.state l.view))
    (first_of_each same_query (asked_of (g.V.View.state l.view) (line_value l.line)))
