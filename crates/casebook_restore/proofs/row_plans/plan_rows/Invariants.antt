-- The rows so far, and those that are left.
use Rattle.std.proofs.Common.{◌≡◌, ◌++◌, drop, map}
use Rattle.std.specs.Prelude.{IfSome}
use Rattle.casebook_folder.specs.Steps.{after_steps}
use Rattle.casebook_restore.specs.RowPlans.{planned_in}
use Rattle.casebook_restore.proofs.row_plans.plan_rows.Given as goal

abbrev pub invariant-loop-row : goal.invariant-loop-row
invariant-loop-row g l =
    IfSome (g.F.Folder.first l.folder) (λ first.
    l.planned.items ++ map (planned_in (after_steps (g.F.Folder.made l.folder) first)) (drop l.row-index l.rows.items.items)
    ≡ map (planned_in (after_steps (g.F.Folder.made l.folder) first)) l.rows.items.items)
