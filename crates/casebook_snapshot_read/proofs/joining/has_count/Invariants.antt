use Rattle.std.proofs.Common.{◌≡◌, ◌==◌, filter, length}
use Rattle.casebook_snapshot_read.specs.Joined.{count_in, is_in}
use Rattle.casebook_snapshot_read.proofs.joining.has_count.Given as goal

abbrev pub invariant-loop-path : goal.invariant-loop-path
invariant-loop-path l =
    (l.left == length (filter (is_in l.at) l.path-iterator)) ≡ (l.fn.count == count_in l.at l.tree)
