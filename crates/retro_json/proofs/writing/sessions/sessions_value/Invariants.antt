use Rattle.std.proofs.Common.{◌≡◌, ◌++◌, map}
use Rattle.std.specs.FinMap.{entries}
use Rattle.std.specs.List.{list_all}
use Rattle.serde_json.specs.View.{view}
use Rattle.retro_json.specs.Values.{session_data}
use Rattle.retro_json.specs.Typed.{session_typed}
use Rattle.retro_json.proofs.writing.sessions.sessions_value.Given as goal

abbrev pub invariant-loop-sid : goal.invariant-loop-sid
invariant-loop-sid l =
    (map view l.rows.items ++ map session_data l.sid-iterator ≡ map session_data (entries l.state.sessions)) ×
    (list_all session_typed (entries l.state.sessions) ≡ list_all session_typed l.sid-iterator)
