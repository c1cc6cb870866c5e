-- The files so far, and those of the entries that are left.
use Rattle.std.proofs.Common.{◌≡◌, ◌++◌}
use Rattle.std.specs.List.{filter_map}
use Rattle.casebook_stand_in.specs.Shelf.{shelf_of, shelved}
use Rattle.casebook_stand_in.proofs.shelf.shelf_of.Given as goal

abbrev pub invariant-loop-cell : goal.invariant-loop-cell
invariant-loop-cell l =
    l.shelf.items ++ filter_map (shelved l.state) l.cell-iterator ≡ shelf_of l.effect l.state
