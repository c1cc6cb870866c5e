-- Borrowed values of cells.
use Rattle.std.specs.Prelude.{[], Some, None}
use Rattle.retro_tree.specs.declared.value.Value.{Value}
use Rattle.retro_tree.specs.declared.value.Value.TheVariants as values
use Rattle.retro_tree.specs.declared.node.Node.TheVariants as nodes
use Rattle.retro_tree.specs.declared.value_ref.ValueRef.{ValueRef}
use Rattle.retro_tree.specs.declared.value_ref.ValueRef.TheVariants as refs

-- the value that is borrowed
abbrev pub ref_value : ValueRef → Value
ref_value refs.Missing = values.Node nodes.Missing
ref_value refs.Dir = values.Node nodes.Dir
ref_value (refs.File bytes) = values.Node (nodes.File bytes.now)
ref_value (refs.Cwd p) = values.Cwd p.now
ref_value refs.Root = values.Cwd []
ref_value (refs.Text text) = values.Text (Some text.now)
ref_value refs.Unset = values.Text None
ref_value (refs.Status n) = values.Status n
