use Rattle.std.proofs.Common.{◌≡◌, drop}
use Rattle.std.specs.FinMap as map
use Rattle.retro_tree.specs.inner.Marks.{children_tree}
use Rattle.retro_tree.proofs.combined.children_tree.Given as goal

abbrev pub invariant-loop-name : goal.invariant-loop-name
invariant-loop-name l = children_tree l.path (drop l.name-index l.names) l.tree ≡ children_tree l.path l.names map.empty
