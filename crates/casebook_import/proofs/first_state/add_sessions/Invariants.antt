-- The sessions that are left, numbered on, lead to what all lead to.
use Rattle.std.proofs.Common.{◌≡◌, ◌+◌, drop, map}
use Rattle.casebook_typed.specs.Values.{session_value}
use Rattle.casebook_import.specs.First.{with_sessions}
use Rattle.casebook_import.proofs.first_state.add_sessions.Given as goal

abbrev pub invariant-loop-session : goal.invariant-loop-session
invariant-loop-session l = record {
  count : l.number ≡ l.session-index;
  so_far : with_sessions (l.number + 1) (map session_value (drop l.session-index l.sessions)) l.state
      ≡ with_sessions 1 (map session_value l.sessions) l.fn.state;
}
