-- The sessions of a table, whose rows are `NUMBER TAB DIRECTORY [TAB NAME=VALUE]..`.
use Rattle.std.specs.Prelude.{ℕ, not, List, ◌∷◌, length, Result, Ok, Err, nat_le, ok_or}
use Rattle.std.specs.Ordering.{nat_cmp}
use Rattle.std.specs.FinMap.{FinMap, contains_key, empty, insert}
use Rattle.retro_tree.specs.Order.{text_cmp}
use Rattle.retro_tree.specs.Session.{value_limit}
use Rattle.retro_tree.specs.VarName.{is_var_name}
use Rattle.retro_tree.specs.declared.session.Session.{Session}
use Rattle.casebook_script.specs.Ascii.{equals}
use Rattle.casebook_script.specs.Cells.{cells_of, cut_at, number_of}
use Rattle.casebook_script.specs.Paths.{path_of_text}
use Rattle.casebook_script.specs.Rows.{at_row, rows_in}
use Rattle.casebook_script.specs.Steps.{◌>>=◌, guard, in_turn}
use Rattle.casebook_script.specs.declared.fault.RowFault.{RowFault}
use Rattle.casebook_script.specs.declared.fault.RowFault.TheVariants.{Cells, Directory, Number}
use Rattle.casebook_script.specs.declared.fault.RowFault.TheVariants.{SessionTwice, TooLong}
use Rattle.casebook_script.specs.declared.fault.RowFault.TheVariants.{Variable, VariableTwice}
use Rattle.casebook_script.specs.declared.fault.Table.TheVariants as tables
use Rattle.casebook_script.specs.declared.fault.TableFault.{TableFault}

abbrev pub Vars : Type 0
Vars = FinMap text_cmp (List ℕ)

abbrev pub SessionsValue : Type 0
SessionsValue = FinMap nat_cmp Session

-- ---- variables: `NAME=VALUE`

-- a name that a line may assign, and a value within the limit
unfoldable pub var_of : List ℕ → Result (List ℕ × List ℕ) RowFault
var_of cell = do
  (name, value) ← ok_or (cut_at equals cell) Variable
  assignable ← guard (is_var_name name) Variable
  short ← guard (nat_le (length value) value_limit) TooLong
  Ok (name, value)

-- variables, with the one of a cell added
abbrev pub with_var : Vars → List ℕ → Result Vars RowFault
with_var vars cell = do
  (name, value) ← var_of cell
  new ← guard (not (contains_key vars name)) VariableTwice
  Ok (insert vars name value)

-- ---- rows

-- a session of these variables, whose status is 0
abbrev pub session_with : List (List ℕ) → Vars → Session
session_with cwd vars = record { cwd = cwd; vars = vars; status = 0 }

-- the number of a session, and the session
abbrev pub session_of_cells : List (List ℕ) → Result (ℕ × Session) RowFault
session_of_cells (number ∷ directory ∷ cells) = do
  sid ← ok_or (number_of number) Number
  cwd ← ok_or (path_of_text directory) Directory
  vars ← in_turn with_var empty cells
  Ok (sid, session_with cwd vars)
session_of_cells _ = Err Cells

unfoldable pub session_of : List ℕ → Result (ℕ × Session) RowFault
session_of row = do
  cells ← cells_of row
  session_of_cells cells

-- sessions, with the one of a row added
unfoldable pub with_session : SessionsValue → List ℕ → Result SessionsValue RowFault
with_session sessions row = do
  (sid, session) ← session_of row
  new ← guard (not (contains_key sessions sid)) SessionTwice
  Ok (insert sessions sid session)

-- ---- tables

abbrev pub session_step : SessionsValue → ℕ × List ℕ → Result SessionsValue TableFault
session_step sessions row = at_row tables.Sessions row.0 (with_session sessions row.1)

-- the sessions of the bytes of a table
unfoldable pub sessions_in : List ℕ → Result SessionsValue TableFault
sessions_in bytes = do
  rows ← rows_in tables.Sessions bytes
  in_turn session_step empty rows
