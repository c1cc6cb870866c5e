-- What readers of rows return.
use Rattle.std.specs.Prelude.{Option, Some, None, Result, Ok}
use Rattle.std.specs.Prelude.{ℕ, List, Vec}
use Rattle.std.specs.declared.alloc.Global.{Global}
use Rattle.casebook_record.specs.declared.record_error.RecordError.{RecordError}
use Rattle.casebook_record.specs.declared.record_error.RecordError.TheVariants as records
use Rattle.casebook_spool.specs.declared.item.Item.{Item}
use Rattle.casebook_spool.specs.declared.note.Note.{Note}
use Rattle.retro_path.specs.OutOfMemory.{UnlessOutOfMemory}
use Rattle.casebook_spool.specs.Reads.{refused}
use Rattle.casebook_spool.specs.declared.lines.LinesError.{LinesError}
use Rattle.casebook_spool.specs.declared.row_fault.RowFault.{RowFault}
use Rattle.casebook_spool.specs.declared.row_fault.RowFault.TheVariants as faults

-- what a fault says of a row, or None if memory ran out
abbrev pub not_read : {A : Type 0} → RowFault → Option (Option A)
not_read faults.NoMem = None
not_read faults.Wrong = Some None

-- the fault of a row whose record has an error
abbrev pub row_fault : RecordError → RowFault
row_fault records.NoMem = faults.NoMem
row_fault _ = faults.Wrong

-- the result is what the row is read as, unless memory ran out
abbrev pub ReadsRow : {A : Type 0} → Result A RowFault → Option A → Type 0
ReadsRow result read = UnlessOutOfMemory Some not_read result read

-- the same of a list of notes
abbrev pub ReadsNotes : Result (Vec Note Global) RowFault → Option (List Note) → Type 0
ReadsNotes result read = UnlessOutOfMemory (λ notes. Some notes.items) not_read result read

-- the same of a list of items
abbrev pub ReadsItems : Result (Vec Item Global) LinesError → Result (List Item) ℕ → Type 0
ReadsItems result read = UnlessOutOfMemory (λ items. Ok items.items) refused result read
