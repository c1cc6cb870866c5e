-- Whether one of the paths that are left holds such a text, as one of all does.
use Rattle.std.proofs.Common.{◌≡◌, drop}
use Rattle.std.specs.List.{list_any}
use Rattle.retro_tree.specs.Node.{bytes_in}
use Rattle.retro_tree.specs.Tree.{node_in}
use Rattle.casebook_import.specs.Understood.{has_opaque}
use Rattle.casebook_import.proofs.understood.are_opaque.Given as goal

abbrev pub invariant-loop-path : goal.invariant-loop-path
invariant-loop-path l =
    list_any (λ q. has_opaque (bytes_in (node_in q l.state.tree))) (drop l.path-index l.paths)
    ≡ list_any (λ q. has_opaque (bytes_in (node_in q l.state.tree))) l.paths
