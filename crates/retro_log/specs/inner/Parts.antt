-- The parts of a document's object, each as it is read: the last value of its key, or its refusal.
use Rattle.std.specs.Prelude.{ℕ, List, ◌∷◌, Bool, not, ◌&&◌, ◌==◌, Option, Some, None, Result, Ok, Err}
use Rattle.std.specs.Prelude.{codes, if◌then◌else◌, is_some, option_map, ⊤}
use Rattle.serde_json.specs.Data.{Data, Members}
use Rattle.serde_json.specs.Find.{get_member}
use Rattle.retro_tree.specs.Path.{PathValue}
use Rattle.retro_tree.specs.declared.entry.Entry.{Entry}
use Rattle.retro_tree.specs.declared.session.Session.{Session}
use Rattle.retro_tree.specs.declared.state.State.{State}
use Rattle.retro_keep.specs.Recording.{RecordingValue}
use Rattle.retro_keep.specs.Script.{ScriptValue, script_of_lines}
use Rattle.retro_keep.specs.declared.noted.Noted.{Noted}
use Rattle.retro_keep.specs.declared.script.ScriptLine.{ScriptLine}
use Rattle.retro_json.specs.declared.fault.Part.TheVariants.{Document, Lines}
use Rattle.retro_json.specs.declared.fault.Refusal.{Refusal}
use Rattle.retro_json.specs.declared.fault.Refusal.TheVariants.{BadVersion, UnknownKey, WrongShape}
use Rattle.retro_json.specs.Shape.{Text, cells}
use Rattle.retro_json.specs.Steps.{◌>>=◌, guard}
use Rattle.retro_json.specs.Worst.{every}
use Rattle.retro_json.specs.Rows.{session_rows, sessions_of_all, tree_of_rows, tree_rows}
use Rattle.retro_log.specs.Document.{from_key, has_keys, is_key, line_number_in, part_keys, recording_of}
use Rattle.retro_log.specs.Document.{script_version, version_in, with_refusal}
use Rattle.retro_log.specs.LinesPart.{line_of}
use Rattle.retro_log.specs.LogLinesPart.{log_line_of}

-- what a document holds
pub data Kind : Type 0 where
  script : Kind
  log : Kind

-- the key of the version in a document of a kind
abbrev pub version_key : Kind → Text
version_key script = codes "script"
version_key log = codes "log"

pub record Parts (L : Type 0) : Type 0 where
  pub is_known : Bool
  pub version : Option (Result ℕ Refusal)
  pub from : Option (Result ℕ Refusal)
  pub tree : Option (Result (List (PathValue × Entry)) Refusal)
  pub sessions : Option (Result (List (ℕ × Result Session Refusal)) Refusal)
  pub lines : Option (Result (List L) Refusal)

-- what is read of the last value of a key
abbrev pub part_of : {A : Type 0} → (Data → A) → Text → Members → Option A
part_of read k ms = option_map read (get_member k ms)

-- the lines that an array is, or the worst refusal of the whole list
abbrev pub all_lines : {L : Type 0} → (Data → Result L Refusal) → Data → Result (List L) Refusal
all_lines line_of d = cells Lines d >>= every line_of

-- the keys that are read in documents of a kind. A script may not have `from`: `script_of_parts`
-- refuses it.
abbrev pub keys_of : Kind → List Text
keys_of kind = from_key ∷ version_key kind ∷ part_keys

-- the parts of a document of a kind, by what its lines are
abbrev pub parts_of : {L : Type 0} → Kind → (Data → Result L Refusal) → Members → Parts L
parts_of kind line_of ms = record {
  is_known = has_keys (is_key (keys_of kind)) ms;
  version = part_of version_in (version_key kind) ms;
  from = part_of line_number_in from_key ms;
  tree = part_of tree_rows (codes "tree") ms;
  sessions = part_of session_rows (codes "sessions") ms;
  lines = part_of (all_lines line_of) (codes "lines") ms;
}

abbrev pub script_parts : Members → Parts ScriptLine
script_parts = parts_of script line_of

abbrev pub log_parts : Members → Parts (ℕ × Noted)
log_parts = parts_of log log_line_of

-- ---- documents of their parts

abbrev pub part_at : {A : Type 0} → Option (Result A Refusal) → Result A Refusal
part_at None = Err (WrongShape Document)
part_at (Some read) = read

-- no key but those that are read, and each that all versions have
abbrev pub parts_fit : {L : Type 0} → Parts L → Result ⊤ Refusal
parts_fit p = do
  known ← guard p.is_known UnknownKey
  guard (is_some p.version && (is_some p.tree && (is_some p.sessions && is_some p.lines))) (WrongShape Document)

-- a state of the rows of its tree and of its sessions
abbrev pub state_of_rows : List (PathValue × Entry) → Result (List (ℕ × Result Session Refusal)) Refusal
    → Result State Refusal
state_of_rows rows others = do
  tree ← tree_of_rows rows
  read ← others
  sessions ← sessions_of_all read
  Ok (record { tree = tree; sessions = sessions })

abbrev pub first_of_parts : {L : Type 0} → Parts L → Result State Refusal
first_of_parts p = part_at p.tree >>= λ rows. state_of_rows rows (part_at p.sessions)

abbrev pub from_of_parts : ℕ → Option (Result ℕ Refusal) → Result ℕ Refusal
from_of_parts version from =
    if version == 1 then (guard (not (is_some from)) UnknownKey >>= λ u. Ok 1)
    else if version == 2 then part_at from
    else Err BadVersion

abbrev pub log_of_parts : Parts (ℕ × Noted) → Result RecordingValue Refusal
log_of_parts p = do
  fit ← parts_fit p
  version ← part_at p.version
  from ← from_of_parts version p.from
  first ← first_of_parts p
  lines ← part_at p.lines
  recording_of first from lines

abbrev pub script_of_parts : Parts ScriptLine → Result ScriptValue Refusal
script_of_parts p = do
  unsaid ← guard (not (is_some p.from)) UnknownKey
  fit ← parts_fit p
  version ← part_at p.version
  supported ← guard (version == script_version) BadVersion
  first ← first_of_parts p
  lines ← part_at p.lines
  with_refusal (script_of_lines first lines)
