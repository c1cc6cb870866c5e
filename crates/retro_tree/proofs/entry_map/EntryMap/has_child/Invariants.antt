use Rattle.std.proofs.Common.{◌≡◌, map}
use Rattle.std.specs.List.{list_any}
use Rattle.retro_tree.specs.Path.{is_child}
use Rattle.retro_tree.specs.Tree.{has_child}
use Rattle.retro_tree.proofs.Together.{together}
use Rattle.retro_tree.proofs.entry_map.EntryMap.has_child.Given as goal

abbrev pub invariant-loop-other : goal.invariant-loop-other
invariant-loop-other l =
    has_child l.path l.self ≡ list_any (is_child l.path) (together l.path (map (λ e. e.0) l.other-iterator))
