-- The nodes so far, and those of the rows that are left.
use Rattle.std.proofs.Common.{◌≡◌}
use Rattle.retro_tree.specs.Path.{PathValue}
use Rattle.retro_tree.specs.Tree.{node_in}
use Rattle.retro_tree.specs.declared.node.Node.TheVariants.{Missing}
use Rattle.casebook_compare.proofs.Folders.{node_after}
use Rattle.casebook_compare.proofs.comparing.snapshot_tree.Given as goal

abbrev pub invariant-loop-path : goal.invariant-loop-path
invariant-loop-path l =
    (q : PathValue) → node_after l.path-iterator q (node_in q l.state.tree) ≡ node_after l.fn.rows.entries q Missing
