-- The plan of a restore.
use Rattle.std.specs.Prelude.{◌≡◌, Bool, List, count_by, map}
use Rattle.std.specs.List.{AllByRecursion, filter}
use Rattle.retro_path.specs.Path.{PathValue}
use Rattle.retro_tree.specs.Tree.{Tree}
use Rattle.casebook_changes.specs.ChangedPaths.{AreChangedPaths, path_in}
use Rattle.casebook_changes.specs.declared.changed_path.ChangedPath.{ChangedPath}
use Rattle.casebook_folder.specs.Plans.{IsPlanned, planned_path}
use Rattle.casebook_folder.specs.declared.given.GivenAttributes.{GivenAttributes}
use Rattle.casebook_restore.specs.Choices.{is_left_out, is_missed, is_outside, is_wanted, unkept_at}
use Rattle.casebook_restore.specs.declared.task.RestorePlan.{RestorePlan}

-- from which tree to which a folder is brought, which modes and owners are given to what is new,
-- where the folder is in the trees, and which paths are chosen
pub record RestoreValue : Type 0 where
  pub recorded : Tree
  pub repaired : Tree
  pub given : GivenAttributes
  pub at : PathValue
  pub only : List PathValue

abbrev pub is_wanted_change : RestoreValue → ChangedPath → Bool
is_wanted_change task c = is_wanted task.repaired task.at task.only c.path

abbrev pub is_missed_change : RestoreValue → ChangedPath → Bool
is_missed_change task c = is_missed task.repaired task.at task.only c

-- Of the paths in which the trees differ that are below the folder's and chosen, in order, a plan
-- has a row for exactly those at which what is repaired is kept, and names the others. It counts
-- those that aren't below the folder's, and those that aren't chosen. Each row is that of its path,
-- by what was found there.
pub record IsRestorePlan (task : RestoreValue) (plan : RestorePlan) : Type 0 where
  pub changed : List ChangedPath
  pub are_changed : AreChangedPaths task.recorded task.repaired changed
  pub paths : map planned_path plan.rows.items ≡ map path_in (filter (is_wanted_change task) changed)
  pub planned : AllByRecursion (IsPlanned task.recorded task.repaired task.given) plan.rows.items
  pub unkept : plan.unkept.items ≡ map (unkept_at task.repaired) (filter (is_missed_change task) changed)
  pub outside : plan.outside ≡ count_by (is_outside task.at) changed
  pub left_out : plan.left_out ≡ count_by (is_left_out task.repaired task.at task.only) changed
