use Rattle.std.proofs.Common.{◌≡◌}
use Rattle.std.specs.List.{list_all}
use Rattle.retro_tree.specs.Lawful.{is_lawful_tree, entry_passes}
use Rattle.retro_tree.proofs.tree.Tree.is_lawful.Given as goal

abbrev pub invariant-loop-path : goal.invariant-loop-path
invariant-loop-path l = is_lawful_tree l.self ≡ list_all (entry_passes l.self) l.path-iterator
