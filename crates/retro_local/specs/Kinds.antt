-- The kind of what an operand names, where /dev/null counts as a file (POSIX.1-2017 XBD 10.1).
use Rattle.std.specs.Prelude.{if◌then◌else◌}
use Rattle.retro_tree.specs.Path.{PathValue, is_null}
use Rattle.retro_tree.specs.Node.{kind_of}
use Rattle.retro_tree.specs.Tree.{node_in}
use Rattle.retro_tree.specs.declared.kind.Kind.{Kind}
use Rattle.retro_tree.specs.declared.kind.Kind.TheVariants.{File}
use Rattle.retro_tree.specs.declared.state.State.{State}

unfoldable pub kind_at : PathValue → State → Kind
kind_at p s = if is_null p then File else kind_of (node_in p s.tree)
