-- What was found so far, and what the cells say that are left.
use Rattle.std.proofs.Common.{◌≡◌, ◌++◌}
use Rattle.std.specs.List.{filter_map}
use Rattle.casebook_explain.specs.Done.{done_by, done_in}
use Rattle.casebook_explain.proofs.done.done_by.Given as goal

abbrev pub invariant-loop-cell : goal.invariant-loop-cell
invariant-loop-cell l =
    l.done.items ++ filter_map (done_in l.state) l.cell-iterator ≡ done_by l.effect l.state
