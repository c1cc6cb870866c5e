-- The code of a script.
use Rattle.std.specs.Prelude.{List, refl}
use Rattle.std.specs.Coded.{Coded, code_by, coded×, coded_list}
use Rattle.retro_tree.specs.declared.state.State.{State}
use Rattle.retro_tree.specs.contracts.state.State as state_type
use Rattle.retro_keep.specs.declared.script.ScriptLine.{ScriptLine}
use Rattle.retro_keep.specs.contracts.script.ScriptLine as line_type
use Rattle.retro_keep.specs.Script.{ScriptValue}

abbrev pub coded_state : Coded State
coded_state = (state_type.the_row).coded

abbrev pub coded_line : Coded ScriptLine
coded_line = (line_type.the_row).coded

-- a script is stored as the pair of its parts
abbrev pub coded_script : Coded ScriptValue
coded_script =
    code_by (State × List ScriptLine) (coded× coded_state (coded_list coded_line)) (λ s. (s.first, s.lines))
    (λ p. record { first = p.0; lines = p.1 }) (λ _. refl)
