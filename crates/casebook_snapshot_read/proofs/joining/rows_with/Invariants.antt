use Rattle.std.proofs.Common.{◌≡◌}
use Rattle.std.specs.BTreeMap.{get}
use Rattle.std.specs.FinMap.{entries}
use Rattle.retro_path.specs.Order.{path_cmp}
use Rattle.casebook_snapshot_read.specs.Joined.{each, row_with}
use Rattle.casebook_snapshot_read.proofs.Steps.{in_front}
use Rattle.casebook_snapshot_read.proofs.joining.rows_with.Given as goal

abbrev pub invariant-loop-path : goal.invariant-loop-path
invariant-loop-path l =
    in_front l.rows.items (each (row_with l.at (get path_cmp l.known)) l.path-iterator)
    ≡ each (row_with l.at (get path_cmp l.known)) (entries l.tree)
