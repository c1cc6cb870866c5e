use Rattle.std.proofs.Common.{◌≡◌, map, take}
use Rattle.casebook_about.specs.Rows.{user_view}
use Rattle.casebook_repairs.specs.Labels.{with_users}
use Rattle.casebook_repairs.proofs.labels.add_own_users.Given as goal

abbrev pub invariant-loop-user : goal.invariant-loop-user
invariant-loop-user l = l.labels ≡ with_users (map user_view (take l.user-index l.users)) l.fn.labels
