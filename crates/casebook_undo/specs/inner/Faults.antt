-- What readers of parts return.
use Rattle.std.specs.Prelude.{Option, Some, None, Result, Ok, Err}
use Rattle.retro_path.specs.OutOfMemory.{UnlessOutOfMemory}
use Rattle.casebook_undo.specs.declared.cell_fault.CellFault.{CellFault}
use Rattle.casebook_undo.specs.declared.cell_fault.CellFault.TheVariants as cell
use Rattle.casebook_undo.specs.declared.undo_fault.UndoFault.{UndoFault}
use Rattle.casebook_undo.specs.declared.undo_fault.UndoFault.TheVariants as faults

-- what a fault says of a value, or None if memory ran out
abbrev pub not_read : {A : Type 0} → CellFault → Option (Option A)
not_read cell.NoMem = None
not_read cell.WrongShape = Some None

-- the result is what the value is read as, unless memory ran out
abbrev pub ReadsCell : {A : Type 0} → Result A CellFault → Option A → Type 0
ReadsCell result read = UnlessOutOfMemory Some not_read result read

-- what was read, or another fault in place of a wrong shape
abbrev pub or_fault : {A : Type 0} → UndoFault → Result A CellFault → Result A UndoFault
or_fault fault (Ok x) = Ok x
or_fault fault (Err cell.NoMem) = Err faults.NoMem
or_fault fault (Err cell.WrongShape) = Err fault

-- the refusal of a fault, or None if memory ran out
abbrev pub refused : {Y : Type 0} → UndoFault → Option (Result Y UndoFault)
refused faults.NoMem = None
refused fault = Some (Err fault)

-- the result, seen by `view`, is what reading gives, unless memory ran out
abbrev pub Reads : {X Y : Type 0} → (X → Y) → Result X UndoFault → Result Y UndoFault → Type 0
Reads view result read = UnlessOutOfMemory (λ x. Ok (view x)) refused result read
