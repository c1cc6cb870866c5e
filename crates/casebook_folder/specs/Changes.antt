-- A path in which two trees differ, over what a folder holds there.
use Rattle.std.specs.Prelude.{Bool, true, false, not, ◌&&◌, if◌then◌else◌}
use Rattle.std.specs.Option.{unwrap_or}
use Rattle.std.specs.BTreeMap.{get_by}
use Rattle.retro_path.specs.Order.{text_eq, path_cmp}
use Rattle.retro_path.specs.Path.{PathValue}
use Rattle.retro_tree.specs.Tree.{Tree, node_in}
use Rattle.retro_tree.specs.Ask.{names_in}
use Rattle.retro_tree.specs.declared.node.Node.{Node}
use Rattle.retro_tree.specs.declared.node.Node.TheVariants as nodes
use Rattle.casebook_folder.specs.Found.{is_missing}
use Rattle.casebook_folder.specs.declared.attributes.Attributes.{Attributes}
use Rattle.casebook_folder.specs.declared.change.Change.{Change}
use Rattle.casebook_folder.specs.declared.given.GivenAttributes.{GivenAttributes}
use Rattle.casebook_folder.specs.declared.obstacle.Obstacle.TheVariants.{OtherChild}
use Rattle.casebook_folder.specs.declared.state.State.{State}
use Rattle.casebook_folder.specs.declared.state.State.TheVariants as states
use Rattle.casebook_folder.specs.declared.found.Found.{Found}
use Rattle.casebook_folder.specs.declared.found.Found.TheVariants.{Missing, Dir, File, Blocked}

-- ---- the change of a path

-- whether two nodes are the same
abbrev pub node_eq : Node → Node → Bool
node_eq nodes.Missing nodes.Missing = true
node_eq nodes.Missing nodes.Dir = false
node_eq nodes.Missing (nodes.File y) = false
node_eq nodes.Dir nodes.Missing = false
node_eq nodes.Dir nodes.Dir = true
node_eq nodes.Dir (nodes.File y) = false
node_eq (nodes.File x) nodes.Missing = false
node_eq (nodes.File x) nodes.Dir = false
node_eq (nodes.File x) (nodes.File y) = text_eq x y

-- whether two trees differ in a path
abbrev pub differs : Tree → Tree → PathValue → Bool
differs recorded repaired p = not (node_eq (node_in p recorded) (node_in p repaired))

-- the attributes of a new node: those that are known, or else those of its kind
abbrev pub given_for : GivenAttributes → PathValue → Node → Attributes
given_for g p nodes.Missing = unwrap_or (get_by (path_cmp p) g.files) g.file
given_for g p nodes.Dir = unwrap_or (get_by (path_cmp p) g.dirs) g.dir
given_for g p (nodes.File y) = unwrap_or (get_by (path_cmp p) g.files) g.file

abbrev pub change_of : Tree → Tree → GivenAttributes → PathValue → Change
change_of recorded repaired g p = record {
  path = p;
  old = node_in p recorded;
  new = node_in p repaired;
  given = given_for g p (node_in p repaired);
  children = names_in p recorded;
}

-- ---- what a folder is to a change

-- whether a node is found, with any mode and owner
abbrev pub is_found : Node → Found → Bool
is_found nodes.Missing Missing = true
is_found nodes.Missing (Dir a) = false
is_found nodes.Missing (File y a) = false
is_found nodes.Missing (Blocked o) = false
is_found nodes.Dir Missing = false
is_found nodes.Dir (Dir a) = true
is_found nodes.Dir (File y a) = false
is_found nodes.Dir (Blocked o) = false
is_found (nodes.File x) Missing = false
is_found (nodes.File x) (Dir a) = false
is_found (nodes.File x) (File y a) = text_eq x y
is_found (nodes.File x) (Blocked o) = false

-- whether one is a directory and the other a file
abbrev pub is_other_kind : Node → Node → Bool
is_other_kind nodes.Missing y = false
is_other_kind nodes.Dir nodes.Missing = false
is_other_kind nodes.Dir nodes.Dir = false
is_other_kind nodes.Dir (nodes.File y) = true
is_other_kind (nodes.File x) nodes.Missing = false
is_other_kind (nodes.File x) nodes.Dir = true
is_other_kind (nodes.File x) (nodes.File y) = false

abbrev pub is_dir_node : Node → Bool
is_dir_node nodes.Missing = false
is_dir_node nodes.Dir = true
is_dir_node (nodes.File x) = false

-- whether the change removes a directory that is found
abbrev pub removes_dir : Change → Found → Bool
removes_dir c Missing = false
removes_dir c (Dir a) = not (is_dir_node c.new)
removes_dir c (File x a) = false
removes_dir c (Blocked o) = false

abbrev pub state_by : Change → Found → Bool → State
state_by c x has_other_child =
    if is_found c.new x then states.Done
    else if is_found c.old x then
    (if has_other_child then states.Blocked OtherChild else states.Ready)
    else if is_other_kind c.old c.new && is_missing x then states.Ready
    else states.Differs

-- How a folder is to a change, by what it holds at the path, and by whether that is a directory
-- that has to go and has a child that the recorded tree doesn't have.
abbrev pub state_of : Change → Found → Bool → State
state_of c Missing has_other_child = state_by c Missing has_other_child
state_of c (Dir a) has_other_child = state_by c (Dir a) has_other_child
state_of c (File x a) has_other_child = state_by c (File x a) has_other_child
state_of c (Blocked o) has_other_child = states.Blocked o

-- the mode and owner of a new node: those of what is found, if that is of its kind, or else others
abbrev pub kept_or : Attributes → Node → Found → Attributes
kept_or given nodes.Missing x = given
kept_or given nodes.Dir Missing = given
kept_or given nodes.Dir (Dir a) = a
kept_or given nodes.Dir (File y a) = given
kept_or given nodes.Dir (Blocked o) = given
kept_or given (nodes.File x) Missing = given
kept_or given (nodes.File x) (Dir a) = given
kept_or given (nodes.File x) (File y a) = a
kept_or given (nodes.File x) (Blocked o) = given

abbrev pub with_attributes : Node → Attributes → Found
with_attributes nodes.Missing a = Missing
with_attributes nodes.Dir a = Dir a
with_attributes (nodes.File x) a = File x a

-- what a path is to hold, by what is found there
abbrev pub wanted_of : Change → Found → Found
wanted_of c x = with_attributes c.new (kept_or c.given c.new x)
