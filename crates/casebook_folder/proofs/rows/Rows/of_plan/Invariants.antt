use Rattle.std.proofs.Common.{◌≡◌, ◌++◌}
use Rattle.std.specs.List.{list_all}
use Rattle.std.proofs.Math.ListN.{drop}
use Rattle.casebook_folder.specs.Plans.{can_be_restored, ready_rows}
use Rattle.casebook_folder.proofs.rows.Rows.of_plan.Given as goal

abbrev pub invariant-loop-row : goal.invariant-loop-row
invariant-loop-row l = record {
  rows : l.rows.items ++ ready_rows (drop l.row-index l.plan) ≡ ready_rows l.plan;
  able : list_all can_be_restored (drop l.row-index l.plan) ≡ list_all can_be_restored l.plan;
}
