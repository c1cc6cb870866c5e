-- The rows by which a plan is carried out, and what a folder holds then.
use Rattle.std.specs.Prelude.{◌≡◌, Bool, true, false, IsTrue, List}
use Rattle.std.specs.List.{list_all, list_any}
use Rattle.retro_path.specs.Order.{path_eq}
use Rattle.retro_path.specs.Path.{PathValue}
use Rattle.retro_tree.specs.Tree.{Tree, node_in}
use Rattle.casebook_folder.specs.Changes.{is_found}
use Rattle.casebook_folder.specs.Plans.{Fit, can_be_restored, ready_rows}
use Rattle.casebook_folder.specs.Steps.{Contents}
use Rattle.casebook_folder.specs.declared.found.Found.{Found}
use Rattle.casebook_folder.specs.declared.planned_row.PlannedRow.{PlannedRow}
use Rattle.casebook_folder.specs.declared.row.Row.{Row}

-- Rows carry out a plan: they are those for which the folder is ready, where it is ready for all or
-- done with them; or they were kept of a run before, and fit the plan.
pub data AreRowsOf (plan : List PlannedRow) (rows : List Row) : Type 0 where
  own : IsTrue (list_all can_be_restored plan) → rows ≡ ready_rows plan → AreRowsOf plan rows
  kept : Fit plan rows → AreRowsOf plan rows

abbrev pub is_at : PathValue → PlannedRow → Bool
is_at q r = path_eq r.change.path q

-- whether a plan has a row for a path
abbrev pub has_row : PathValue → List PlannedRow → Bool
has_row q plan = list_any (is_at q) plan

-- at a path with a row the repaired node, with any mode and owner, and elsewhere what was there
abbrev pub IsRepairedAt : Bool → Tree → PathValue → Found → Found → Type 0
IsRepairedAt true repaired q old now = is_found (node_in q repaired) now ≡ true
IsRepairedAt false repaired q old now = now ≡ old

-- The folder holds the repaired nodes at exactly the paths of a plan, and is as it was elsewhere.
abbrev pub IsRepaired : Tree → List PlannedRow → Contents → Contents → Type 0
IsRepaired repaired plan old now =
    (q : PathValue) → IsRepairedAt (has_row q plan) repaired q (old q) (now q)
