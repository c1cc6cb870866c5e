-- Rows that were kept, as a plan: how a folder is to each of them.
use Rattle.std.specs.Prelude.{◌||◌, [], if◌then◌else◌}
use Rattle.retro_tree.specs.declared.node.Node.{Node}
use Rattle.retro_tree.specs.declared.node.Node.TheVariants as nodes
use Rattle.casebook_folder.specs.Found.{found_eq, is_missing}
use Rattle.casebook_folder.specs.Steps.{Contents}
use Rattle.casebook_folder.specs.declared.attributes.Attributes.{Attributes}
use Rattle.casebook_folder.specs.declared.change.Change.{Change}
use Rattle.casebook_folder.specs.declared.found.Found.{Found}
use Rattle.casebook_folder.specs.declared.found.Found.TheVariants.{Missing, Dir, File, Blocked}
use Rattle.casebook_folder.specs.declared.planned_row.PlannedRow.{PlannedRow}
use Rattle.casebook_folder.specs.declared.row.Row.{Row}
use Rattle.casebook_folder.specs.declared.state.State.{State}
use Rattle.casebook_folder.specs.declared.state.State.TheVariants as states

-- what is found, as a tree has it
abbrev pub node_found : Found → Node
node_found Missing = nodes.Missing
node_found (Dir a) = nodes.Dir
node_found (File x a) = nodes.File x
node_found (Blocked o) = nodes.Missing

abbrev pub no_attributes : Attributes
no_attributes = record { mode = 0; uid = 0; gid = 0 }

abbrev pub attributes_found : Found → Attributes
attributes_found Missing = no_attributes
attributes_found (Dir a) = a
attributes_found (File x a) = a
attributes_found (Blocked o) = no_attributes

-- a row as a change: from what it says that was there to what is to be there
abbrev pub change_of_row : Row → Change
change_of_row r = record {
  path = r.path;
  old = node_found r.before;
  new = node_found r.after;
  given = attributes_found r.after;
  children = [];
}

abbrev pub state_by : Row → Found → State
state_by r x =
    if found_eq x r.after then states.Done
    else if found_eq x r.before || is_missing x then states.Ready else states.Differs

-- how a folder is to a row, by what it holds at the path: it is done if that is what is to be
-- there, and ready if it is what was there, or nothing, as it may be where a restore was
-- interrupted
abbrev pub state_of_row : Row → Found → State
state_of_row r Missing = state_by r Missing
state_of_row r (Dir a) = state_by r (Dir a)
state_of_row r (File x a) = state_by r (File x a)
state_of_row r (Blocked o) = states.Blocked o

abbrev pub planned_of_row : Row → Found → PlannedRow
planned_of_row r x = record {
  change = change_of_row r;
  before = x;
  after = r.after;
  state = state_of_row r x;
}

-- a row is planned by what a folder holds at its path
abbrev pub planned_in : Contents → Row → PlannedRow
planned_in f r = planned_of_row r (f r.path)
