use Rattle.std.proofs.Common.{◌≡◌, ◌++◌}
use Rattle.std.proofs.Math.ListN.{drop}
use Rattle.casebook_folder.specs.Remaining.{undo}
use Rattle.casebook_folder.proofs.undoing.swapped_rows.Given as goal

abbrev pub invariant-loop-row : goal.invariant-loop-row
invariant-loop-row l = l.swapped.items ++ undo (drop l.row-index l.rows) ≡ undo l.rows
