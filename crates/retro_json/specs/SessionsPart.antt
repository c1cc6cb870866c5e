-- The sessions of a document: a list of `[sid,cwd,status,[[name,value],..]]`.
use Rattle.std.specs.Prelude.{ℕ, List, [], ◌∷◌, Result, Ok, Err, ok_or}
use Rattle.std.specs.Ordering.{nat_cmp}
use Rattle.std.specs.FinMap.{FinMap, from_entries}
use Rattle.serde_json.specs.Data.{Data}
use Rattle.retro_tree.specs.Order.{text_cmp}
use Rattle.retro_tree.specs.VarName.{is_var_name}
use Rattle.retro_tree.specs.Limits.{values_fit}
use Rattle.retro_tree.specs.declared.session.Session.{Session}
use Rattle.retro_json.specs.declared.fault.Part.TheVariants.{Sessions}
use Rattle.retro_json.specs.declared.fault.Refusal.{Refusal}
use Rattle.retro_json.specs.declared.fault.Refusal.TheVariants.{WrongShape, OverLimit}
use Rattle.retro_json.specs.Steps.{◌>>=◌, guard}
use Rattle.retro_json.specs.Worst.{both, every}
use Rattle.retro_json.specs.Keyed.{are_distinct, keys_of, map_of}
use Rattle.retro_json.specs.Shape.{Text, cells, text_in, u32_in, u8_in}
use Rattle.retro_json.specs.PathText.{path_in}

-- ---- variables: a name that a line may assign, and a value; no name twice

abbrev pub var_cells : List Data → Result (Text × Text) Refusal
var_cells (n ∷ v ∷ []) = do
  name ← text_in Sessions n
  assignable ← guard (is_var_name name) (WrongShape Sessions)
  value ← text_in Sessions v
  Ok (name, value)
var_cells _ = Err (WrongShape Sessions)

unfoldable pub var_of : Data → Result (Text × Text) Refusal
var_of d = cells Sessions d >>= var_cells

-- no name twice, and then each value within the limit
abbrev pub vars_of_entries : List (Text × Text) → Result (FinMap text_cmp Text) Refusal
vars_of_entries entries = do
  vars ← ok_or (map_of text_cmp entries) (WrongShape Sessions)
  fit ← guard (values_fit vars) OverLimit
  Ok vars

unfoldable pub vars_of : Data → Result (FinMap text_cmp Text) Refusal
vars_of d = do
  items ← cells Sessions d
  entries ← every var_of items
  vars_of_entries entries

-- ---- a row: the number of a session, and the session or its worst refusal

abbrev pub session_in : Data → Data → Data → Result Session Refusal
session_in p s v = do
  (cwd, (status, vars)) ← both (path_in Sessions p) (both (u8_in Sessions s) (vars_of v))
  Ok (record { cwd = cwd; vars = vars; status = status })

abbrev pub row_cells : List Data → Result (ℕ × Result Session Refusal) Refusal
row_cells (n ∷ p ∷ s ∷ v ∷ []) = do
  sid ← u32_in Sessions n
  Ok (sid, session_in p s v)
row_cells _ = Err (WrongShape Sessions)

unfoldable pub row_of : Data → Result (ℕ × Result Session Refusal) Refusal
row_of d = cells Sessions d >>= row_cells

-- ---- all sessions: no number twice, and then the worst refusal of a session

abbrev pub entry_of : ℕ × Result Session Refusal → Result (ℕ × Session) Refusal
entry_of row = do
  session ← row.1
  Ok (row.0, session)

-- the sessions of rows whose numbers differ
unfoldable pub sessions_of_rows : List (ℕ × Result Session Refusal) → Result (FinMap nat_cmp Session) Refusal
sessions_of_rows rows = do
  entries ← every entry_of rows
  Ok (from_entries entries)

unfoldable pub sessions_of : Data → Result (FinMap nat_cmp Session) Refusal
sessions_of d = do
  items ← cells Sessions d
  rows ← every row_of items
  apart ← guard (are_distinct nat_cmp (keys_of rows)) (WrongShape Sessions)
  sessions_of_rows rows
