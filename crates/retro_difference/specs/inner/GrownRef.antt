-- Borrowed values with bytes appended.
use Rattle.std.specs.Prelude.{ℕ, List, ◌++◌}
use Rattle.retro_tree.specs.declared.value.Value.{Value}
use Rattle.retro_tree.specs.declared.value.Value.TheVariants as values
use Rattle.retro_tree.specs.declared.node.Node.TheVariants as nodes
use Rattle.retro_tree.specs.ValueRef.{ref_value}
use Rattle.retro_difference.specs.declared.grown_ref.GrownRef.{GrownRef}

-- a value with bytes after its own, if it is a file
abbrev pub file_grown : List ℕ → Value → Value
file_grown more (values.Node (nodes.File bytes)) = values.Node (nodes.File (bytes ++ more))
file_grown more v = v

-- the value that is borrowed
abbrev pub grown_ref_value : GrownRef → Value
grown_ref_value r = file_grown r.end.now (ref_value r.value)
