-- What was written is read as it was.
use Rattle.std.proofs.Common.{◌≡◌, ℕ, List, Result, Ok, Err, ap, refl, subst}
use Rattle.retro_path.specs.Path.{PathValue}
use Rattle.casebook_folder.specs.Rows.{AreInOrder}
use Rattle.casebook_folder.specs.declared.row.Row.{Row}
use Rattle.casebook_undo.specs.Reading.{UndoView, undo_in, undo_view}
use Rattle.casebook_undo.specs.Reads.{IsReadAs, IsReadOf, IsUnsorted, file_view}
use Rattle.casebook_undo.specs.declared.undo_fault.UndoFault.{UndoFault}
use Rattle.casebook_undo.specs.declared.undo_fault.UndoFault.TheVariants as faults
use Rattle.casebook_undo.specs.declared.undo_file.UndoFile.{UndoFile}

same_view : (said : Result UndoView UndoFault) (x y : UndoView) → said ≡ Ok x → said ≡ Ok y → x ≡ y
same_view said x y e f = cc

no_fault : (said : Result UndoView UndoFault) (x : UndoView) (fault : UndoFault) → said ≡ Ok x → said ≡ Err fault → ⊥
no_fault said x fault e f = cc

read_back : (at : PathValue) (rows : List Row) (said : Result UndoView UndoFault) (result : Result UndoFile UndoFault)
    → AreInOrder rows → said ≡ Ok (undo_view at rows) → IsReadOf said result → IsReadAs at rows result
read_back at rows said (Ok file) sorted says is =
    let same = same_view said (file_view file) (undo_view at rows) is says in
    (ap (λ (v : UndoView). v.at) same, ap (λ (v : UndoView). v.rows) same)
read_back at rows said (Err faults.NoMem) sorted says is = refl
read_back at rows said (Err faults.Unsorted) sorted says is = absurd (subst IsUnsorted says is sorted)
read_back at rows said (Err faults.NotJson) sorted says is = absurd (no_fault said _ faults.NotJson says is)
read_back at rows said (Err faults.NotAnUndoFile) sorted says is = absurd (no_fault said _ faults.NotAnUndoFile says is)
read_back at rows said (Err (faults.BadRow place)) sorted says is =
    absurd (no_fault said _ (faults.BadRow place) says is)

pub bytes_read_back : (at : PathValue) (rows : List Row) (bytes : List ℕ) (result : Result UndoFile UndoFault)
    → AreInOrder rows → undo_in bytes ≡ Ok (undo_view at rows) → IsReadOf (undo_in bytes) result
    → IsReadAs at rows result
bytes_read_back at rows bytes result = read_back at rows (undo_in bytes) result
