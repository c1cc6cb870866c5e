-- Which plans can be carried out.
use Rattle.std.specs.Prelude.{Bool, true, false, ◌&&◌, List, [], ◌∷◌}
use Rattle.std.specs.List.{list_all}
use Rattle.casebook_folder.specs.Plans.{can_be_restored}
use Rattle.casebook_restore.specs.declared.task.RestorePlan.{RestorePlan}
use Rattle.casebook_restore.specs.declared.task.UnkeptPath.{UnkeptPath}

abbrev pub are_none : List UnkeptPath → Bool
are_none [] = true
are_none (u ∷ us) = false

-- what was at each path is kept, and the folder is ready for it or done with it
abbrev pub can_be_carried_out : RestorePlan → Bool
can_be_carried_out plan = are_none plan.unkept.items && list_all can_be_restored plan.rows.items
