-- The lines of a table, whose rows are `SESSION TAB TEXT`.
use Rattle.std.specs.Prelude.{ℕ, ◌+◌, ◌^◌, List, [], ◌∷◌, length, Result, Ok, Err, nat_lt, ok_or}
use Rattle.std.specs.FinMap.{contains_key}
use Rattle.retro_keep.specs.declared.script.ScriptLine.{ScriptLine}
use Rattle.casebook_script.specs.Cells.{cells_of, number_of}
use Rattle.casebook_script.specs.Rows.{at_row, rows_in}
use Rattle.casebook_script.specs.Sessions.{SessionsValue}
use Rattle.casebook_script.specs.Steps.{◌>>=◌, guard, in_turn, with_item}
use Rattle.casebook_script.specs.declared.fault.RowFault.{RowFault}
use Rattle.casebook_script.specs.declared.fault.RowFault.TheVariants.{Cells, Number, TooManyLines}
use Rattle.casebook_script.specs.declared.fault.RowFault.TheVariants.{UnknownSession}
use Rattle.casebook_script.specs.declared.fault.Table.TheVariants as tables
use Rattle.casebook_script.specs.declared.fault.TableFault.{TableFault}

-- the line with a number: its session, which exists, and its text
abbrev pub line_of_cells : SessionsValue → ℕ → List (List ℕ) → Result ScriptLine RowFault
line_of_cells sessions number (session ∷ text ∷ []) = do
  sid ← ok_or (number_of session) Number
  known ← guard (contains_key sessions sid) UnknownSession
  counted ← guard (nat_lt number (2 ^ 32)) TooManyLines
  Ok (record { number = number; sid = sid; text = text })
line_of_cells sessions number _ = Err Cells

unfoldable pub line_of : SessionsValue → ℕ → List ℕ → Result ScriptLine RowFault
line_of sessions number row = do
  cells ← cells_of row
  line_of_cells sessions number cells

-- lines, with the one of a row added, whose number is one above how many there are
abbrev pub line_step : SessionsValue → List ScriptLine → ℕ × List ℕ
    → Result (List ScriptLine) TableFault
line_step sessions lines row =
    with_item (λ r. at_row tables.Lines r.0 (line_of sessions (length lines + 1) r.1)) lines row

-- the lines of the bytes of a table, whose numbers begin at 1
unfoldable pub lines_in : SessionsValue → List ℕ → Result (List ScriptLine) TableFault
lines_in sessions bytes = do
  rows ← rows_in tables.Lines bytes
  in_turn (line_step sessions) [] rows
