use Rattle.std.proofs.Common.{◌≡◌, ◌++◌, map}
use Rattle.std.specs.FinMap.{entries}
use Rattle.std.specs.List.{list_all}
use Rattle.serde_json.specs.View.{view}
use Rattle.retro_json.specs.Values.{var_data}
use Rattle.retro_json.specs.Typed.{var_typed}
use Rattle.retro_json.proofs.writing.sessions.vars_value.Given as goal

abbrev pub invariant-loop-name : goal.invariant-loop-name
invariant-loop-name l =
    (map view l.rows.items ++ map var_data l.name-iterator ≡ map var_data (entries l.vars)) ×
    (list_all var_typed (entries l.vars) ≡ list_all var_typed l.name-iterator)
