use Rattle.std.proofs.Common.{◌≡◌, map}
use Rattle.casebook_about.specs.Rows.{user_view}
use Rattle.casebook_repairs.specs.Labels.{with_users}
use Rattle.casebook_repairs.proofs.labels.add_users.Given as goal

abbrev pub invariant-loop-user : goal.invariant-loop-user
invariant-loop-user l =
    with_users (map user_view l.user-iterator.rest.items) l.labels
    ≡ with_users (map user_view l.fn.users.items) l.fn.labels
