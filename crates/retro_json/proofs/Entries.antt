-- An entry that is put at a path.
use Rattle.std.proofs.Common.{◌≡◌, Some, refl}
use Rattle.std.specs.FinMap.{insert}
use Rattle.retro_tree.specs.Path.{PathValue}
use Rattle.retro_tree.specs.Node.{node_of}
use Rattle.retro_tree.specs.Tree.{Tree, put}
use Rattle.retro_tree.specs.declared.entry.Entry.{Entry}
use Rattle.retro_tree.specs.declared.entry.Entry.TheVariants.{Dir, File}

pub put_entry : (p : PathValue) (entry : Entry) (tree : Tree) → put p (node_of (Some entry)) tree ≡ insert tree p entry
put_entry p Dir tree = refl
put_entry p (File bytes) tree = refl
