-- The texts of logs.
use Rattle.std.specs.Prelude.{ℕ, List, [], ◌∷◌, ◌++◌, map, codes}
use Rattle.serde_json.specs.Data.{Data, string, object, no_members, member}
use Rattle.serde_json.specs.Written.{compact_text}
use Rattle.retro_keep.specs.Recording.{RecordingValue}
use Rattle.retro_keep.specs.declared.noted.Noted.{Noted}
use Rattle.retro_json.specs.Values.{array_of, number_data, hex_data, tree_data, sessions_data}
use Rattle.retro_json.specs.NoteValues.{notes_data}

-- `[number,sid,text,notes,"hex"]`, where the hex is what the line printed
unfoldable pub line_data : ℕ × Noted → Data
line_data l = array_of
    (number_data l.0 ∷ number_data l.1.sid ∷ string l.1.text ∷ notes_data l.1.notes ∷ hex_data l.1.output ∷ [])

unfoldable pub lines_data : List (ℕ × Noted) → Data
lines_data lines = array_of (map line_data lines)

-- version 2: `{"from":n,"lines":..,"log":2,"sessions":..,"tree":..}`, with the keys in byte order
abbrev pub log_object : ℕ → Data → Data → Data → Data
log_object from lines sessions tree = object
    (member (codes "from") (number_data from)
    (member (codes "lines") lines
    (member (codes "log") (number_data 2)
    (member (codes "sessions") sessions
    (member (codes "tree") tree no_members)))))

unfoldable pub log_data : RecordingValue → Data
log_data r =
    log_object r.from (lines_data r.lines) (sessions_data r.first.sessions) (tree_data r.first.tree)

-- a log: compact, with a newline at the end
unfoldable pub log_text : RecordingValue → List ℕ
log_text r = compact_text (log_data r) ++ codes "\n"
