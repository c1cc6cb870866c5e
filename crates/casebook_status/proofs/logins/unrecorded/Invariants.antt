-- The logins so far, and those of the ones that are left.
use Rattle.std.proofs.Common.{◌≡◌, ◌++◌, drop, map}
use Rattle.casebook_host.specs.LoginViews.{login_value}
use Rattle.casebook_typed.specs.Values.{session_value}
use Rattle.casebook_status.specs.Logins.{unrecorded}
use Rattle.casebook_status.proofs.logins.unrecorded.Given as goal

abbrev pub invariant-loop-login : goal.invariant-loop-login
invariant-loop-login l =
    map login_value l.found.items
    ++ unrecorded (map session_value l.sessions) (map login_value (drop l.login-index l.logins))
    ≡ unrecorded (map session_value l.sessions) (map login_value l.logins)
