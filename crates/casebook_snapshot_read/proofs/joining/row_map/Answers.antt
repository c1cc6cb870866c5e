use Rattle.std.specs.BTreeMap.{get}
use Rattle.std.specs.FinMap.{entries, entries_sorted}
use Rattle.retro_path.specs.Order.{path_cmp}
use Rattle.casebook_snapshot_read.proofs.Ordered.{joined_in_order}
use Rattle.casebook_snapshot_read.proofs.joining.row_map.Goals as goal

pub in_order-requires : goal.in_order-requires
in_order-requires c =
    joined_in_order c.args.at.now (get path_cmp c.args.known.now) (entries c.args.tree.now) c.in_ok-rows.rows.items
    c.in_ok-rows.ensures (entries_sorted c.args.tree.now)
