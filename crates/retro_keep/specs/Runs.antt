-- What running lines one by one gives.
use Rattle.std.specs.Prelude.{ℕ, List, [], ◌∷◌}
use Rattle.retro_tree.specs.declared.state.State.{State}
use Rattle.retro_shell.specs.Line.{line}
use Rattle.retro_keep.specs.declared.script.ScriptLine.{ScriptLine}

-- a line's number, and what it printed
abbrev pub Output : Type 0
Output = ℕ × List ℕ

-- the last state and the outputs, preceded by the output of a line
abbrev pub with_output : ℕ → List ℕ → State × List Output → State × List Output
with_output number text (s, outputs) = (s, (number, text) ∷ outputs)

abbrev pub after_line : ℕ → State × List ℕ → (State → State × List Output) → State × List Output
after_line number (s, text) rest = with_output number text (rest s)

-- the lines one by one from a state: the last state, and what each line printed
abbrev pub outcome : List ScriptLine → State → State × List Output
outcome [] s = (s, [])
outcome (l ∷ lines) s = after_line l.number (line l.sid l.text s) (outcome lines)
