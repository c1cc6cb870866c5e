-- What the bytes say tells nothing of the order of rows, so reading them never fails for it.
use Rattle.std.proofs.Common.{ℕ, ◌+◌, List, [], ◌∷◌, Bool, true, false, Option, Some, None}
use Rattle.std.proofs.Common.{Result, Ok, Err, subst}
use Rattle.std.specs.Prelude.{codes, if◌then◌else◌, ok_or, option_and_then}
use Rattle.serde_json.specs.Data.{Data}
use Rattle.serde_json.specs.Find.{get}
use Rattle.retro_path.specs.OutOfMemory.{IsMeant}
use Rattle.retro_path.specs.Path.{PathValue}
use Rattle.retro_log.specs.Document.{json_of}
use Rattle.casebook_folder.specs.declared.row.Row.{Row}
use Rattle.casebook_undo.specs.Cells.{cells_in, path_in, row_in}
use Rattle.casebook_undo.specs.Reading.{◌>>=◌, UndoView, is_undo_file, parts_of, rows_from, undo_in, undo_of}
use Rattle.casebook_undo.specs.Reading.{undo_view}
use Rattle.casebook_undo.specs.Reads.{IsFault}
use Rattle.casebook_undo.specs.declared.undo_fault.UndoFault.{UndoFault}
use Rattle.casebook_undo.specs.declared.undo_fault.UndoFault.TheVariants as faults
use Rattle.casebook_undo.specs.declared.undo_fault.UndoFault.TheVariants.{BadRow, NotAnUndoFile, NotJson}
use Rattle.casebook_undo.specs.inner.Faults.{refused}

abbrev IsOther : UndoFault → Type 0
IsOther faults.Unsorted = ⊥
IsOther fault = Unit {0}

-- a result that isn't the fault of rows out of order
abbrev IsOfParts : {Y : Type 0} → Result Y UndoFault → Type 0
IsOfParts (Ok x) = Unit {0}
IsOfParts (Err fault) = IsOther fault

one_more : (row : Option Row) (place : ℕ) (rest : Result (List Row) UndoFault) → IsOfParts rest
    → IsOfParts (ok_or row (BadRow place) >>= λ row. rest >>= λ rows. Ok (row ∷ rows))
one_more None place rest h = tt
one_more (Some row) place (Ok rows) h = tt
one_more (Some row) place (Err fault) h = h

rows_of_parts : (place : ℕ) (ds : List Data) → IsOfParts (rows_from place ds)
unfolding rows_from
rows_of_parts place [] = tt
rows_of_parts place (d ∷ ds) =
    one_more (row_in d) place (rows_from (place + 1) ds) (rows_of_parts (place + 1) ds)

with_rows : (at : PathValue) (rows : Result (List Row) UndoFault) → IsOfParts rows
    → IsOfParts (rows >>= λ rows. Ok (undo_view at rows))
with_rows at (Ok rows) h = tt
with_rows at (Err fault) h = h

with_parts : (at : Option PathValue) (cells : Option (List Data))
    → IsOfParts (ok_or at NotAnUndoFile >>= λ at. ok_or cells NotAnUndoFile
    >>= λ cells. rows_from 1 cells >>= λ rows. Ok (undo_view at rows))
with_parts None cells = tt
with_parts (Some at) None = tt
with_parts (Some at) (Some cells) = with_rows at (rows_from 1 cells) (rows_of_parts 1 cells)

at_test : (b : Bool) (said : Result UndoView UndoFault) → IsOfParts said
    → IsOfParts (if b then said else Err NotAnUndoFile)
at_test true said h = h
at_test false said h = tt

value_of_parts : (d : Data) → IsOfParts (undo_of d)
unfolding undo_of
value_of_parts d =
    at_test (is_undo_file d) (parts_of d)
    (with_parts (option_and_then path_in (get (codes "at") d)) (option_and_then cells_in (get (codes "rows") d)))

at_value : (value : Option Data) → IsOfParts (ok_or value NotJson >>= undo_of)
at_value None = tt
at_value (Some d) = value_of_parts d

of_parts : (bytes : List ℕ) → IsOfParts (undo_in bytes)
unfolding undo_in
of_parts bytes = at_value (json_of bytes)

fault_by : (fault : UndoFault) (said : Result UndoView UndoFault) → IsOfParts said
    → IsMeant (refused fault) said → IsFault fault said
fault_by faults.NoMem said h is = tt
fault_by faults.NotJson said h is = is
fault_by faults.NotAnUndoFile said h is = is
fault_by (faults.BadRow place) said h is = is
fault_by faults.Unsorted said h is = absurd (subst IsOfParts is h)

-- a fault of the parts is that of the file
pub fault_of_parts : (fault : UndoFault) (bytes : List ℕ) → IsMeant (refused fault) (undo_in bytes)
    → IsFault fault (undo_in bytes)
fault_of_parts fault bytes is = fault_by fault (undo_in bytes) (of_parts bytes) is
