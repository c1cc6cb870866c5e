-- The queries so far, and those of the files that are left.
use Rattle.std.proofs.Common.{◌≡◌, drop}
use Rattle.std.specs.Prelude.{flat_map}
use Rattle.casebook_needs.specs.Line.{line_value}
use Rattle.casebook_needs.specs.Needs.{queries_in_file, same_query, script_queries}
use Rattle.casebook_needs.specs.inner.Steps.{with_items}
use Rattle.casebook_needs.proofs.rules.add_scripts.Given as goal

abbrev pub invariant-loop-path : goal.invariant-loop-path
invariant-loop-path g l =
    with_items same_query l.more
    (flat_map (queries_in_file (g.V.View.state l.view) l.line.directory.now)
    (drop l.path-index l.path-items))
    ≡ with_items same_query l.fn.sought (script_queries (g.V.View.state l.view) (line_value l.line))
