-- What `read_rows` returns, by what the bytes say.
use Rattle.std.specs.Prelude.{◌≡◌, List, Result, Ok, Err}
use Rattle.retro_path.specs.Path.{PathValue}
use Rattle.casebook_folder.specs.Rows.{AreInOrder}
use Rattle.casebook_folder.specs.declared.row.Row.{Row}
use Rattle.casebook_undo.specs.Reading.{UndoView, undo_view}
use Rattle.casebook_undo.specs.declared.undo_fault.UndoFault.{UndoFault}
use Rattle.casebook_undo.specs.declared.undo_fault.UndoFault.TheVariants as faults
use Rattle.casebook_undo.specs.declared.undo_file.UndoFile.{UndoFile}

abbrev pub file_view : UndoFile → UndoView
file_view file = undo_view file.at file.rows.items.items

-- all parts are read, but the rows aren't in order of their paths, or a path has two
abbrev pub IsUnsorted : Result UndoView UndoFault → Type 0
IsUnsorted (Ok file) = ¬ (AreInOrder file.rows)
IsUnsorted (Err fault) = ⊥

-- the fault is the one that the bytes have, unless memory ran out
abbrev pub IsFault : UndoFault → Result UndoView UndoFault → Type 0
IsFault faults.NoMem said = Unit {0}
IsFault faults.Unsorted said = IsUnsorted said
IsFault fault said = said ≡ Err fault

-- the result of reading bytes, by what they say
abbrev pub IsReadOf : Result UndoView UndoFault → Result UndoFile UndoFault → Type 0
IsReadOf said (Ok file) = said ≡ Ok (file_view file)
IsReadOf said (Err fault) = IsFault fault said

-- these rows and this path are read, unless memory ran out
abbrev pub IsReadAs : PathValue → List Row → Result UndoFile UndoFault → Type 0
IsReadAs at rows (Ok file) = (file.at ≡ at) × (file.rows.items.items ≡ rows)
IsReadAs at rows (Err fault) = fault ≡ faults.NoMem
