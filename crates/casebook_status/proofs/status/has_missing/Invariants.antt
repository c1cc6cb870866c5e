-- Whether a line of the sessions that are left has no record, as one of all has none.
use Rattle.std.proofs.Common.{◌≡◌, drop, map}
use Rattle.casebook_typed.specs.Values.{session_value}
use Rattle.casebook_status.specs.Status.{has_missing}
use Rattle.casebook_status.proofs.status.has_missing.Given as goal

abbrev pub invariant-loop-session : goal.invariant-loop-session
invariant-loop-session l =
    has_missing (map session_value (drop l.session-index l.sessions))
    ≡ has_missing (map session_value l.sessions)
