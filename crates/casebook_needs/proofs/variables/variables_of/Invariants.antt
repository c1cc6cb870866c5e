-- The variables so far, and those of the parts that are left.
use Rattle.std.proofs.Common.{◌≡◌, ◌++◌, drop, map}
use Rattle.std.specs.List.{filter_map}
use Rattle.casebook_needs.specs.Variables.{after_dollars, variable_after}
use Rattle.casebook_needs.proofs.variables.variables_of.Given as goal

abbrev pub invariant-loop-part : goal.invariant-loop-part
invariant-loop-part l =
    l.names.items
    ++ filter_map variable_after (map (λ part. part.now) (drop l.part-index l.part-items))
    ≡ filter_map variable_after (after_dollars l.text)
