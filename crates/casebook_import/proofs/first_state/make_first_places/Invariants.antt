-- The sessions that are left lead to what all lead to.
use Rattle.std.proofs.Common.{◌≡◌, drop, map}
use Rattle.casebook_typed.specs.Values.{session_value}
use Rattle.casebook_import.specs.First.{directory_by, with_places}
use Rattle.casebook_import.proofs.first_state.make_first_places.Given as goal

abbrev pub invariant-loop-session : goal.invariant-loop-session
invariant-loop-session l =
    with_places l.sights (map (λ session. directory_by session.first)
    (map session_value (drop l.session-index l.sessions))) l.state
    ≡ with_places l.sights (map (λ session. directory_by session.first)
    (map session_value l.sessions)) l.fn.state
