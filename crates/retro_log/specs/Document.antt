-- Which script or which recording a document is, or its first refusal (RFC 8259 for the JSON text).
use Rattle.std.specs.Prelude.{ℕ, ◌==◌, List, [], ◌∷◌, Bool, true, ◌&&◌, Option, None, Result, Ok, Err, bytes_eq, codes}
use Rattle.std.specs.Prelude.{if◌then◌else◌, is_some, nat_lt, not, ok_or, ⊤}
use Rattle.std.specs.List.{list_all, list_any}
use Rattle.std.specs.Str.{is_utf8}
use Rattle.serde_json.specs.Data.{Data, Members, no_members, member}
use Rattle.serde_json.specs.Read.{read}
use Rattle.serde_json.specs.Find.{get, as_object}
use Rattle.retro_tree.specs.declared.state.State.{State}
use Rattle.retro_keep.specs.Recording.{RecordingValue}
use Rattle.retro_keep.specs.RecordingFault.{numbers_rise, sessions_exist}
use Rattle.retro_keep.specs.Script.{ScriptValue, script_of_lines}
use Rattle.retro_keep.specs.declared.noted.Noted.{Noted}
use Rattle.retro_keep.specs.declared.script.LinesFault.{LinesFault}
use Rattle.retro_json.specs.declared.fault.Part.TheVariants.{Document, Version}
use Rattle.retro_json.specs.declared.fault.Refusal.{Refusal}
use Rattle.retro_json.specs.declared.fault.Refusal.TheVariants.{NumbersNotRising, UnknownSession, LawlessTree, NotJson}
use Rattle.retro_json.specs.declared.fault.Refusal.TheVariants.{WrongShape, UnknownKey, BadVersion}
use Rattle.retro_json.specs.RecordingFaults.{lines_refusal}
use Rattle.retro_json.specs.Steps.{◌>>=◌, guard}
use Rattle.retro_json.specs.Shape.{Text, u32_in, unsigned_in}
use Rattle.retro_json.specs.TreePart.{tree_of}
use Rattle.retro_json.specs.SessionsPart.{sessions_of}
use Rattle.retro_log.specs.LinesPart.{lines_of}
use Rattle.retro_log.specs.LogLinesPart.{log_lines_of}
use Rattle.retro_log.specs.Allowed.{are_lines_allowed}

-- ---- documents: an object with some keys, and a version

-- whether each key passes
abbrev pub has_keys : (Text → Bool) → Members → Bool
has_keys p no_members = true
has_keys p (member k d ms) = p k && has_keys p ms

abbrev pub is_key : List Text → Text → Bool
is_key keys k = list_any (bytes_eq k) keys

-- an object without other keys
abbrev pub only_keys : List Text → Data → Result ⊤ Refusal
only_keys keys d = do
  members ← ok_or (as_object d) (WrongShape Document)
  guard (has_keys (is_key keys) members) UnknownKey

abbrev pub has_member : Data → Text → Bool
has_member d k = is_some (get k d)

-- an object that has no key but known ones, and each wanted one
abbrev pub keys_fit : List Text → List Text → Data → Result ⊤ Refusal
keys_fit known wanted d = do
  only ← only_keys known d
  guard (list_all (has_member d) wanted) (WrongShape Document)

-- the value at a key; at a doubled key the last value, as `serde_json` reads it
abbrev pub member_at : Text → Data → Result Data Refusal
member_at k d = ok_or (get k d) (WrongShape Document)

-- the number of a version, which may be any whole number
abbrev pub version_in : Data → Result ℕ Refusal
version_in d = ok_or (unsigned_in d) (WrongShape Version)

abbrev pub version_is : ℕ → Data → Result ⊤ Refusal
version_is wanted d = do
  version ← version_in d
  guard (version == wanted) BadVersion

-- a document of one kind: an object with these keys, no others, and this version at one of them
abbrev pub has_form : List Text → Text → ℕ → Data → Result ⊤ Refusal
has_form keys kind wanted d = do
  fit ← keys_fit keys keys d
  version ← member_at kind d
  version_is wanted version

-- the JSON value that the bytes are, as UTF-8
abbrev pub json_of : List ℕ → Option Data
json_of bytes = if is_utf8 bytes then read bytes else None

-- ---- the parts that scripts and logs have

abbrev pub part_keys : List Text
part_keys = codes "tree" ∷ codes "sessions" ∷ codes "lines" ∷ []

-- a state, of its two parts
abbrev pub state_of : Data → Data → Result State Refusal
state_of tree_data sessions_data = do
  tree ← tree_of tree_data
  sessions ← sessions_of sessions_data
  Ok (record { tree = tree; sessions = sessions })

abbrev pub first_of : Data → Result State Refusal
first_of d = do
  tree_data ← member_at (codes "tree") d
  sessions_data ← member_at (codes "sessions") d
  state_of tree_data sessions_data

-- ---- scripts

abbrev pub script_keys : List Text
script_keys = codes "script" ∷ part_keys

abbrev pub script_version : ℕ
script_version = 1

abbrev pub with_refusal : Result ScriptValue LinesFault → Result ScriptValue Refusal
with_refusal (Ok script) = Ok script
with_refusal (Err fault) = Err (lines_refusal fault)

unfoldable pub script_of : Data → Result ScriptValue Refusal
script_of d = do
  form ← has_form script_keys (codes "script") script_version d
  first ← first_of d
  lines_data ← member_at (codes "lines") d
  lines ← lines_of lines_data
  with_refusal (script_of_lines first lines)

-- the script that the bytes are
unfoldable pub script_in : List ℕ → Result ScriptValue Refusal
script_in bytes = do
  d ← ok_or (json_of bytes) NotJson
  script_of d

-- ---- logs

-- the keys that both versions have
abbrev pub log_keys : List Text
log_keys = codes "log" ∷ part_keys

-- the key that only version 2 has
abbrev pub from_key : Text
from_key = codes "from"

-- the version of a log that has the keys of both versions, and no other but `from`
abbrev pub log_version_of : Data → Result ℕ Refusal
log_version_of d = do
  fit ← keys_fit (from_key ∷ log_keys) log_keys d
  version ← member_at (codes "log") d
  version_in version

-- a line number: a whole number from 1 on, of 32 bits
abbrev pub line_number_in : Data → Result ℕ Refusal
line_number_in d = do
  number ← u32_in Version d
  counted ← guard (nat_lt 0 number) (WrongShape Version)
  Ok number

-- version 1 doesn't have `from`, and begins at the first line of all
abbrev pub from_of_first_version : Data → Result ℕ Refusal
from_of_first_version d = do
  unsaid ← guard (not (has_member d from_key)) UnknownKey
  Ok 1

-- version 2 says where it begins
abbrev pub from_of_second_version : Data → Result ℕ Refusal
from_of_second_version d = member_at from_key d >>= line_number_in

abbrev pub from_by_version : ℕ → Data → Result ℕ Refusal
from_by_version version d =
    if version == 1 then from_of_first_version d
    else if version == 2 then from_of_second_version d
    else Err BadVersion

-- the number of the line at which a log begins
unfoldable pub log_from : Data → Result ℕ Refusal
log_from d = do
  version ← log_version_of d
  from_by_version version d

-- the first state and the lines
unfoldable pub log_parts_of : Data → Result (State × List (ℕ × Noted)) Refusal
log_parts_of d = do
  first ← first_of d
  lines_data ← member_at (codes "lines") d
  lines ← log_lines_of lines_data
  Ok (first, lines)

-- The recording of a first state, the number at which it begins, and lines, none of which may have
-- a number below it. Noted answers aren't compared with the states.
unfoldable pub recording_of : State → ℕ → List (ℕ × Noted) → Result RecordingValue Refusal
recording_of first from lines = do
  rising ← guard (numbers_rise from lines) NumbersNotRising
  known ← guard (sessions_exist first lines) UnknownSession
  lawful ← guard (are_lines_allowed lines first) LawlessTree
  Ok (record { first = first; from = from; lines = lines })

unfoldable pub log_of : Data → Result RecordingValue Refusal
log_of d = do
  from ← log_from d
  (first, lines) ← log_parts_of d
  recording_of first from lines

-- the recording that the bytes are
unfoldable pub log_in : List ℕ → Result RecordingValue Refusal
log_in bytes = do
  d ← ok_or (json_of bytes) NotJson
  log_of d
