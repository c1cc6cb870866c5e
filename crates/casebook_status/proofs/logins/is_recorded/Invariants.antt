-- Whether one of the sessions that are left is of the login, as one of all is.
use Rattle.std.proofs.Common.{◌≡◌, drop, map}
use Rattle.casebook_host.specs.LoginViews.{login_value}
use Rattle.casebook_typed.specs.Values.{session_value}
use Rattle.casebook_status.specs.Logins.{is_recorded}
use Rattle.casebook_status.proofs.logins.is_recorded.Given as goal

abbrev pub invariant-loop-session : goal.invariant-loop-session
invariant-loop-session l =
    is_recorded (map session_value (drop l.session-index l.sessions)) (login_value l.login)
    ≡ is_recorded (map session_value l.sessions) (login_value l.login)
