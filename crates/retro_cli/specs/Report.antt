-- The texts of reports.
use Rattle.std.specs.Prelude.{ℕ, List, [], ◌∷◌, ◌++◌, map, codes}
use Rattle.serde_json.specs.Data.{Data, object, no_members, member}
use Rattle.serde_json.specs.Written.{compact_text}
use Rattle.retro_tree.specs.declared.state.State.{State}
use Rattle.retro_json.specs.Values.{array_of, number_data, hex_data, tree_data, sessions_data}

-- `[number,"hex"]`: a line and what it printed
abbrev pub output_data : ℕ × List ℕ → Data
output_data output = array_of (number_data output.0 ∷ hex_data output.1 ∷ [])

-- `{"outputs":..,"sessions":..,"tree":..}`, with the keys in byte order
unfoldable pub replay_data : List (ℕ × List ℕ) → State → Data
replay_data outputs state = object
    (member (codes "outputs") (array_of (map output_data outputs))
    (member (codes "sessions") (sessions_data state.sessions)
    (member (codes "tree") (tree_data state.tree) no_members)))

-- the report of a replay: compact, with a newline at the end
unfoldable pub replay_text : List (ℕ × List ℕ) → State → List ℕ
replay_text outputs state = compact_text (replay_data outputs state) ++ codes "\n"
