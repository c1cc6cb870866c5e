use Rattle.std.proofs.Common.{◌≡◌, ◌++◌, ◌+◌, drop, map}
use Rattle.casebook_about.specs.Rows.{user_view}
use Rattle.casebook_typed.specs.Values.{session_value}
use Rattle.casebook_account.specs.Accounts.{users_from}
use Rattle.casebook_account.proofs.reading.users_of.Given as goal

abbrev pub invariant-loop-index : goal.invariant-loop-index
invariant-loop-index l =
    map user_view l.users.items
    ++ users_from (l.index + 1) (map session_value (drop l.index l.sessions))
    ≡ users_from 1 (map session_value l.sessions)
