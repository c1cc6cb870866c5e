-- The notes of a line in a log, with the line's session understood.
use Rattle.std.specs.Prelude.{ℕ, List, [], ◌∷◌, Result, Ok, bytes_eq, codes, if◌then◌else◌}
use Rattle.serde_json.specs.Data.{Data}
use Rattle.retro_tree.specs.declared.ask.Ask.TheVariants as asks
use Rattle.retro_tree.specs.declared.answer.Answer.TheVariants as answers
use Rattle.retro_tree.specs.declared.change.Change.TheVariants as changes
use Rattle.retro_tree.specs.declared.note.Note.{Note}
use Rattle.retro_tree.specs.declared.note.Note.TheVariants.{Asked, Made}
use Rattle.retro_json.specs.declared.fault.Part.TheVariants.{Lines}
use Rattle.retro_json.specs.declared.fault.Refusal.{Refusal}
use Rattle.retro_json.specs.Steps.{◌>>=◌}
use Rattle.retro_json.specs.Worst.{both, every}
use Rattle.retro_json.specs.Shape.{Text, cells, text_in, u32_in, u8_in}
use Rattle.retro_json.specs.LogFields.{wrong, or_null, hex_field, path_field, listing_field, kind_field, permit_field}
use Rattle.retro_json.specs.LogFields.{node_field, user_field, var_field, value_field}

-- ---- queries with their answers, by what follows the tag

-- `["kind",path,"missing"|"dir"|"file"]`
abbrev pub kind_cells : List Data → Result Note Refusal
kind_cells (p ∷ k ∷ []) = do
  (path, kind) ← both (path_field p) (kind_field k)
  Ok (Asked (asks.Kind path) (answers.Kind kind))
kind_cells _ = wrong

-- `["bytes",path,node]`
abbrev pub bytes_cells : List Data → Result Note Refusal
bytes_cells (p ∷ n ∷ []) = do
  (path, node) ← both (path_field p) (node_field n)
  Ok (Asked (asks.Bytes path) (answers.Bytes node))
bytes_cells _ = wrong

-- `["names",path,null|[name,..]]`
abbrev pub names_cells : List Data → Result Note Refusal
names_cells (p ∷ ns ∷ []) = do
  (path, names) ← both (path_field p) (or_null listing_field ns)
  Ok (Asked (asks.Names path) (answers.Names names))
names_cells _ = wrong

-- `["canwrite",path,n,"yes"|"noparent"|"notdir"|"isdir"|"toolarge"]`
abbrev pub can_write_cells : List Data → Result Note Refusal
can_write_cells (p ∷ n ∷ w ∷ []) = do
  (path, (more, permit)) ← both (path_field p) (both (u32_in Lines n) (permit_field w))
  Ok (Asked (asks.CanWrite path more) (answers.CanWrite permit))
can_write_cells _ = wrong

-- `["user",name,null|[number,home]]`
abbrev pub user_note_cells : List Data → Result Note Refusal
user_note_cells (n ∷ u ∷ []) = do
  (name, user) ← both (text_in Lines n) (or_null user_field u)
  Ok (Asked (asks.User name) (answers.User user))
user_note_cells _ = wrong

-- `["var",name,null|value]`
abbrev pub var_cells : ℕ → List Data → Result Note Refusal
var_cells sid (n ∷ v ∷ []) = do
  (name, value) ← both (var_field n) (or_null value_field v)
  Ok (Asked (asks.VarOf sid name) (answers.Var value))
var_cells sid _ = wrong

-- `["cwd",path]`
abbrev pub cwd_cells : ℕ → List Data → Result Note Refusal
cwd_cells sid (p ∷ []) = do
  path ← path_field p
  Ok (Asked (asks.CwdOf sid) (answers.Cwd path))
cwd_cells sid _ = wrong

-- `["status",n]`
abbrev pub status_cells : ℕ → List Data → Result Note Refusal
status_cells sid (n ∷ []) = do
  status ← u8_in Lines n
  Ok (Asked (asks.StatusOf sid) (answers.Status status))
status_cells sid _ = wrong

-- ---- changes, by what follows the tag

-- `["put",path,node]`
abbrev pub put_cells : List Data → Result Note Refusal
put_cells (p ∷ n ∷ []) = do
  (path, node) ← both (path_field p) (node_field n)
  Ok (Made (changes.Put path node))
put_cells _ = wrong

-- `["grow",path,"hex"]`
abbrev pub grow_cells : List Data → Result Note Refusal
grow_cells (p ∷ h ∷ []) = do
  (path, bytes) ← both (path_field p) (hex_field h)
  Ok (Made (changes.Grow path bytes))
grow_cells _ = wrong

-- `["setvar",name,value]`
abbrev pub set_var_cells : ℕ → List Data → Result Note Refusal
set_var_cells sid (n ∷ v ∷ []) = do
  (name, value) ← both (var_field n) (value_field v)
  Ok (Made (changes.SetVar sid name value))
set_var_cells sid _ = wrong

-- `["setcwd",path]`
abbrev pub set_cwd_cells : ℕ → List Data → Result Note Refusal
set_cwd_cells sid (p ∷ []) = do
  path ← path_field p
  Ok (Made (changes.SetCwd sid path))
set_cwd_cells sid _ = wrong

-- `["setstatus",n]`
abbrev pub set_status_cells : ℕ → List Data → Result Note Refusal
set_status_cells sid (n ∷ []) = do
  status ← u8_in Lines n
  Ok (Made (changes.SetStatus sid status))
set_status_cells sid _ = wrong

-- ---- notes, by their tag

unfoldable pub tagged_note : ℕ → Text → List Data → Result Note Refusal
tagged_note sid tag rest =
    if bytes_eq tag (codes "kind") then kind_cells rest
    else if bytes_eq tag (codes "bytes") then bytes_cells rest
    else if bytes_eq tag (codes "names") then names_cells rest
    else if bytes_eq tag (codes "canwrite") then can_write_cells rest
    else if bytes_eq tag (codes "user") then user_note_cells rest
    else if bytes_eq tag (codes "var") then var_cells sid rest
    else if bytes_eq tag (codes "cwd") then cwd_cells sid rest
    else if bytes_eq tag (codes "status") then status_cells sid rest
    else if bytes_eq tag (codes "put") then put_cells rest
    else if bytes_eq tag (codes "grow") then grow_cells rest
    else if bytes_eq tag (codes "setvar") then set_var_cells sid rest
    else if bytes_eq tag (codes "setcwd") then set_cwd_cells sid rest
    else if bytes_eq tag (codes "setstatus") then set_status_cells sid rest
    else wrong

abbrev pub note_cells : ℕ → List Data → Result Note Refusal
note_cells sid [] = wrong
note_cells sid (t ∷ rest) = do
  tag ← text_in Lines t
  tagged_note sid tag rest

unfoldable pub note_of : ℕ → Data → Result Note Refusal
note_of sid d = cells Lines d >>= note_cells sid

-- all notes of a line of this session, or the worst refusal
unfoldable pub notes_field : ℕ → Data → Result (List Note) Refusal
notes_field sid d = do
  items ← cells Lines d
  every (note_of sid) items
