-- Undo files, read from their bytes.
use Rattle.std.specs.Prelude.{ℕ, ◌+◌, Bool, false, ◌==◌, List, [], ◌∷◌, Option, Some, None}
use Rattle.std.specs.Prelude.{Result, Ok, Err, codes, if◌then◌else◌, ok_or, option_and_then}
use Rattle.serde_json.specs.Data.{Data}
use Rattle.serde_json.specs.Find.{get}
use Rattle.retro_path.specs.Path.{PathValue}
use Rattle.retro_json.specs.Shape.{unsigned_in}
use Rattle.retro_log.specs.Document.{json_of}
use Rattle.casebook_folder.specs.declared.row.Row.{Row}
use Rattle.casebook_undo.specs.Cells.{cells_in, path_in, row_in}
use Rattle.casebook_undo.specs.declared.undo_fault.UndoFault.{UndoFault}
use Rattle.casebook_undo.specs.declared.undo_fault.UndoFault.TheVariants.{BadRow, NotAnUndoFile, NotJson}

-- the path of the folder in the trees, and the rows in the order of the file
pub record UndoView : Type 0 where
  pub at : PathValue
  pub rows : List Row

abbrev pub undo_view : PathValue → List Row → UndoView
undo_view at rows = record { at = at; rows = rows }

infixl 10 ◌>>=◌
abbrev pub ◌>>=◌ : {A B : Type 0} → Result A UndoFault → (A → Result B UndoFault) → Result B UndoFault
(Ok x) >>= f = f x
(Err fault) >>= f = Err fault

-- all rows, of which the first has a place, or the place of the first that is none
unfoldable pub rows_from : ℕ → List Data → Result (List Row) UndoFault
rows_from place [] = Ok []
rows_from place (d ∷ ds) = do
  row ← ok_or (row_in d) (BadRow place)
  rows ← rows_from (place + 1) ds
  Ok (row ∷ rows)

abbrev pub is_one : Option ℕ → Bool
is_one None = false
is_one (Some n) = n == 1

-- whether a value says that it is an undo file
abbrev pub is_undo_file : Data → Bool
is_undo_file d = is_one (option_and_then unsigned_in (get (codes "undo") d))

-- the path and the list of rows are looked at before the rows, which are counted from 1
abbrev pub parts_of : Data → Result UndoView UndoFault
parts_of d = do
  at ← ok_or (option_and_then path_in (get (codes "at") d)) NotAnUndoFile
  cells ← ok_or (option_and_then cells_in (get (codes "rows") d)) NotAnUndoFile
  rows ← rows_from 1 cells
  Ok (undo_view at rows)

unfoldable pub undo_of : Data → Result UndoView UndoFault
undo_of d = if is_undo_file d then parts_of d else Err NotAnUndoFile

-- what the bytes of an undo file say, or why they aren't one
unfoldable pub undo_in : List ℕ → Result UndoView UndoFault
undo_in bytes = do
  d ← ok_or (json_of bytes) NotJson
  undo_of d
