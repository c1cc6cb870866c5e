-- The script of a tree and two tables, and its document (RFC 8259 for the JSON text).
use Rattle.std.specs.Prelude.{◌≡◌, ℕ, List, [], ◌∷◌, ◌++◌, map, Result, Ok, codes}
use Rattle.serde_json.specs.Data.{Data, string, object, no_members, member}
use Rattle.serde_json.specs.Written.{compact_text}
use Rattle.retro_tree.specs.Tree.{Tree}
use Rattle.retro_keep.specs.Script.{ScriptValue}
use Rattle.retro_keep.specs.declared.script.ScriptLine.{ScriptLine}
use Rattle.retro_json.specs.Values.{array_of, number_data, sessions_data, tree_data}
use Rattle.retro_log.specs.Document.{script_in, script_version}
use Rattle.casebook_script.specs.Lines.{lines_in}
use Rattle.casebook_script.specs.Sessions.{SessionsValue, sessions_in}
use Rattle.casebook_script.specs.Steps.{◌>>=◌}
use Rattle.casebook_script.specs.declared.fault.TableFault.{TableFault}

abbrev pub script_with : Tree → SessionsValue → List ScriptLine → ScriptValue
script_with tree sessions lines =
    record { first = record { tree = tree; sessions = sessions }; lines = lines }

-- the script of a tree and the bytes of two tables, or the first fault
unfoldable pub script_of_tables : Tree → List ℕ → List ℕ → Result ScriptValue TableFault
script_of_tables tree sessions lines = do
  found ← sessions_in sessions
  listed ← lines_in found lines
  Ok (script_with tree found listed)

-- ---- documents

-- `[number,session,text]`
unfoldable pub line_data : ScriptLine → Data
line_data line = array_of (number_data line.number ∷ number_data line.sid ∷ string line.text ∷ [])

unfoldable pub lines_data : List ScriptLine → Data
lines_data lines = array_of (map line_data lines)

-- version 1, with the keys in byte order
abbrev pub script_object : Data → Data → Data → Data
script_object lines sessions tree = object
    (member (codes "lines") lines
    (member (codes "script") (number_data script_version)
    (member (codes "sessions") sessions
    (member (codes "tree") tree no_members))))

unfoldable pub script_data : ScriptValue → Data
script_data script =
    script_object (lines_data script.lines) (sessions_data script.first.sessions)
    (tree_data script.first.tree)

-- the document of a script: compact, with a newline at the end
unfoldable pub script_text : ScriptValue → List ℕ
script_text script = compact_text (script_data script) ++ codes "\n"

-- the document of the script of a tree and the bytes of two tables, or the first fault
unfoldable pub script_text_of : Tree → List ℕ → List ℕ → Result (List ℕ) TableFault
script_text_of tree sessions lines = do
  script ← script_of_tables tree sessions lines
  Ok (script_text script)

-- a document is read as the script that is meant
pub record IsReadAs (meant : Result ScriptValue TableFault) (text : List ℕ) : Type 0 where
  pub script : ScriptValue
  pub is_meant : meant ≡ Ok script
  pub is_read : script_in text ≡ Ok script
