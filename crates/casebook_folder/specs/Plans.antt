-- Plans: the chosen paths in which two trees differ, each with how a folder is to it.
use Rattle.std.specs.Prelude.{◌≡◌, ◌↔◌, Bool, false, ◌&&◌, ◌||◌, IsTrue, List, [], ◌∷◌, map}
use Rattle.std.specs.Prelude.{if◌then◌else◌, Option, Some, None}
use Rattle.std.specs.Option.{is_some}
use Rattle.std.specs.List.{AllByRecursion, filter, list_all}
use Rattle.retro_path.specs.Order.{path_eq}
use Rattle.retro_path.specs.Path.{PathValue}
use Rattle.retro_tree.specs.Tree.{Tree}
use Rattle.casebook_folder.specs.Changes.{change_of, differs, removes_dir, state_of, wanted_of}
use Rattle.casebook_folder.specs.Found.{found_eq}
use Rattle.casebook_folder.specs.Rows.{row_at}
use Rattle.casebook_folder.specs.States.{is_ready, is_done}
use Rattle.casebook_folder.specs.Steps.{Contents, HasOtherChild}
use Rattle.casebook_folder.specs.declared.change.Change.{Change}
use Rattle.casebook_folder.specs.declared.given.GivenAttributes.{GivenAttributes}
use Rattle.casebook_folder.specs.declared.planned_row.PlannedRow.{PlannedRow}
use Rattle.casebook_folder.specs.declared.row.Row.{Row}

abbrev pub planned_path : PlannedRow → PathValue
planned_path r = r.change.path

abbrev pub row_of : PlannedRow → Row
row_of r = record { path = r.change.path; before = r.before; after = r.after }

-- a row is that of two trees for its path, by what was found there
pub record IsPlanned (recorded repaired : Tree) (given : GivenAttributes)
    (r : PlannedRow) : Type 0 where
  pub change : r.change ≡ change_of recorded repaired given r.change.path
  pub after : r.after ≡ wanted_of r.change r.before
  pub state : (has_other_child : Bool) × (r.state ≡ state_of r.change r.before has_other_child)

-- A plan has a row for exactly those of some paths in which two trees differ, in their order.
pub record IsPlan (recorded repaired : Tree) (given : GivenAttributes) (paths : List PathValue)
    (rows : List PlannedRow) : Type 0 where
  pub exact : map planned_path rows ≡ filter (differs recorded repaired) paths
  pub planned : AllByRecursion (IsPlanned recorded repaired given) rows

-- A row says what a folder holds at its path. It counts other children if the change removes the
-- directory that is there.
pub record IsSeenRow (f : Contents) (r : PlannedRow) : Type 0 where
  pub before : r.before ≡ f r.change.path
  pub has_other_child : Bool
  pub child : IsTrue has_other_child
      ↔ (IsTrue (removes_dir r.change r.before) × HasOtherChild f r.change.path r.change.children)
  pub state : r.state ≡ state_of r.change r.before has_other_child

abbrev pub AreSeenRows : Contents → List PlannedRow → Type 0
AreSeenRows f rows = AllByRecursion (IsSeenRow f) rows

abbrev pub is_ready_row : PlannedRow → Bool
is_ready_row r = is_ready r.state

abbrev pub can_be_restored : PlannedRow → Bool
can_be_restored r = is_ready r.state || is_done r.state

-- the rows for which the folder is ready
abbrev pub ready_rows : List PlannedRow → List Row
ready_rows rows = map row_of (filter is_ready_row rows)

-- ---- rows that were kept, and a plan

-- the change that a plan has for a path, or None if it has none
abbrev pub change_at : PathValue → List PlannedRow → Option Change
change_at q [] = None
change_at q (r ∷ rows) = if path_eq r.change.path q then Some r.change else change_at q rows

-- Whether a kept row is that of a change: what it says that was there was ready for the change, and
-- what is to be there is what the change wants then.
abbrev pub fits_change : Option Change → Row → Bool
fits_change None row = false
fits_change (Some c) row =
    is_ready (state_of c row.before false) && found_eq (wanted_of c row.before) row.after

abbrev pub row_fits : List PlannedRow → Row → Bool
row_fits plan row = fits_change (change_at row.path plan) row

-- whether the folder is done with a planned row, or a kept row is of its path
abbrev pub is_settled : List Row → PlannedRow → Bool
is_settled rows r = is_done r.state || is_some (row_at r.change.path rows)

-- Kept rows fit a plan: each is that of one of the plan's changes, and the folder is done with all
-- other changes.
pub record Fit (plan : List PlannedRow) (rows : List Row) : Type 0 where
  pub each : IsTrue (list_all (row_fits plan) rows)
  pub others : IsTrue (list_all (is_settled rows) plan)
