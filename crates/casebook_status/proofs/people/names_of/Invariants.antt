-- The names so far, with those of the sessions that are left, are those of all.
use Rattle.std.proofs.Common.{◌≡◌, drop, map}
use Rattle.std.specs.Prelude.{fold}
use Rattle.casebook_typed.specs.Values.{session_value}
use Rattle.casebook_status.specs.People.{login_of, names_of, with_name}
use Rattle.casebook_status.proofs.people.names_of.Given as goal

abbrev pub invariant-loop-session : goal.invariant-loop-session
invariant-loop-session l =
    fold (λ names session. with_name names (login_of session)) (map (λ n. n.now) l.names.items)
    (map session_value (drop l.session-index l.sessions))
    ≡ names_of (map session_value l.sessions)
