-- The values of the cells of a state.
use Rattle.std.specs.FinMap as map
use Rattle.retro_tree.specs.Tree.{node_in}
use Rattle.retro_tree.specs.Session.{session_in}
use Rattle.retro_tree.specs.declared.cell.Cell.{Cell}
use Rattle.retro_tree.specs.declared.cell.Cell.TheVariants as cells
use Rattle.retro_tree.specs.declared.value.Value.{Value}
use Rattle.retro_tree.specs.declared.value.Value.TheVariants as values
use Rattle.retro_tree.specs.declared.state.State.{State}

-- the value of a cell
unfoldable pub value : Cell → State → Value
value (cells.At p) s = values.Node (node_in p s.tree)
value (cells.Cwd sid) s = values.Cwd (session_in sid s.sessions).cwd
value (cells.Var sid name) s = values.Text (map.get (session_in sid s.sessions).vars name)
value (cells.Status sid) s = values.Status (session_in sid s.sessions).status
