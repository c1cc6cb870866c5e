-- Changes of a state, one cell at a time, and which of them are lawful.
use Rattle.std.specs.Prelude.{◌≡◌, ℕ, Bool, true, false, nat_le, List, Some, length}
use Rattle.std.specs.FinMap as map
use Rattle.retro_tree.specs.Maps.{update}
use Rattle.retro_tree.specs.Path.{PathValue}
use Rattle.retro_tree.specs.Node.{grown, is_dir}
use Rattle.retro_tree.specs.Tree.{node_in}
use Rattle.retro_tree.specs.Session.{default_session, with_var, with_cwd, value_limit, status_limit}
use Rattle.retro_tree.specs.State.{put_node, grow_file, put_status}
use Rattle.retro_tree.specs.Lawful.{IsLawful, may_put, may_grow}
use Rattle.retro_tree.specs.Setting.{with_setting}
use Rattle.retro_tree.specs.declared.setting.Setting.{Setting}
use Rattle.retro_tree.specs.declared.cell.Cell.{Cell}
use Rattle.retro_tree.specs.declared.cell.Cell.TheVariants as cells
use Rattle.retro_tree.specs.declared.value.Value.{Value}
use Rattle.retro_tree.specs.declared.value.Value.TheVariants as values
use Rattle.retro_tree.specs.declared.change.Change.{Change}
use Rattle.retro_tree.specs.declared.change.Change.TheVariants as changes
use Rattle.retro_tree.specs.declared.state.State.{State}

-- a variable or the directory of a session set; the session is created if it doesn't exist
abbrev pub put_var : ℕ → List ℕ → List ℕ → State → State
put_var sid name text s =
    record s { sessions = update s.sessions sid default_session (with_var name text) }

abbrev pub put_cwd : ℕ → PathValue → State → State
put_cwd sid p s = record s { sessions = update s.sessions sid default_session (with_cwd p) }

-- any setting of a session made; the session is created if it doesn't exist
abbrev pub put_setting : ℕ → Setting → State → State
put_setting sid setting s =
    record s { sessions = update s.sessions sid default_session (with_setting setting) }

-- the state after a change
unfoldable pub apply : Change → State → State
apply (changes.Put p node) s = put_node p node s
apply (changes.Grow p bytes) s = grow_file p bytes s
apply (changes.SetVar sid name text) s = put_var sid name text s
apply (changes.SetCwd sid p) s = put_cwd sid p s
apply (changes.SetStatus sid status) s = put_status sid status s

-- the cell that a change writes
abbrev pub cell_of : Change → Cell
cell_of (changes.Put p node) = cells.At p
cell_of (changes.Grow p bytes) = cells.At p
cell_of (changes.SetVar sid name text) = cells.Var sid name
cell_of (changes.SetCwd sid p) = cells.Cwd sid
cell_of (changes.SetStatus sid status) = cells.Status sid

-- a value with bytes appended: only a node grows
abbrev pub value_grown : List ℕ → Value → Value
value_grown bytes (values.Node old) = values.Node (grown bytes old)
value_grown bytes (values.Cwd q) = values.Cwd q
value_grown bytes (values.Text t) = values.Text t
value_grown bytes (values.Status n) = values.Status n

-- the value that a change writes, by the cell's previous value
abbrev pub written : Change → Value → Value
written (changes.Put p node) v = values.Node node
written (changes.Grow p bytes) v = value_grown bytes v
written (changes.SetVar sid name text) v = values.Text (Some text)
written (changes.SetCwd sid p) v = values.Cwd p
written (changes.SetStatus sid status) v = values.Status status

-- ---- lawful changes

-- whether the session of a change exists; a change of the tree needs none
abbrev pub has_its_session : Change → State → Bool
has_its_session (changes.Put p node) s = true
has_its_session (changes.Grow p bytes) s = true
has_its_session (changes.SetVar sid name text) s = map.contains_key s.sessions sid
has_its_session (changes.SetCwd sid p) s = map.contains_key s.sessions sid
has_its_session (changes.SetStatus sid status) s = map.contains_key s.sessions sid

-- whether a change grows a directory
abbrev pub grows_dir : Change → State → Bool
grows_dir (changes.Grow p bytes) s = is_dir (node_in p s.tree)
grows_dir _ s = false

-- A change is lawful if it grows no directory, its session exists, and the state after it is
-- lawful.
pub record IsLawfulChange (c : Change) (s : State) : Type 0 where
  pub growth : grows_dir c s ≡ false
  pub session : has_its_session c s ≡ true
  pub after : IsLawful (apply c s)

-- whether a change keeps a lawful state lawful, by the cells around the change; whether its session
-- exists isn't asked
unfoldable pub may_make : Change → State → Bool
may_make (changes.Put p node) s = may_put p node s.tree
may_make (changes.Grow p bytes) s = may_grow p bytes s.tree
may_make (changes.SetVar sid name text) s = nat_le (length text) value_limit
may_make (changes.SetCwd sid p) s = true
may_make (changes.SetStatus sid status) s = nat_le status status_limit
