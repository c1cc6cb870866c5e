-- The queries so far, and those of the variables that are left.
use Rattle.std.proofs.Common.{◌≡◌, drop, map}
use Rattle.casebook_needs.specs.Needs.{same_query}
use Rattle.casebook_needs.specs.Variables.{variables_of}
use Rattle.casebook_needs.specs.declared.query.Query.TheVariants as queries
use Rattle.casebook_needs.specs.declared.source.Source.TheVariants as sources
use Rattle.casebook_needs.specs.inner.Steps.{with_items}
use Rattle.casebook_needs.proofs.rules.add_variables.Given as goal

abbrev pub invariant-loop-name : goal.invariant-loop-name
invariant-loop-name l =
    with_items same_query l.more
    (map (λ name. (queries.Var name, sources.Variable)) (drop l.name-index l.name-items))
    ≡ with_items same_query l.fn.sought
    (map (λ name. (queries.Var name, sources.Variable)) (variables_of l.text))
