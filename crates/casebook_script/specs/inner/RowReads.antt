-- What readers of rows and of their cells return.
use Rattle.std.specs.Prelude.{◌≡◌, ℕ, List, Result, Ok, Err}
use Rattle.casebook_script.specs.declared.fault.RowFault.{RowFault}
use Rattle.casebook_script.specs.declared.fault.Table.{Table}
use Rattle.casebook_script.specs.declared.fault.TableFault.{TableFault}
use Rattle.casebook_script.specs.declared.fault.TableFault.TheVariants as faults
use Rattle.casebook_script.specs.declared.row_error.RowError.{RowError}
use Rattle.casebook_script.specs.declared.row_error.RowError.TheVariants as errors
use Rattle.casebook_script.specs.declared.table_row.TableRow.{TableRow}

-- an error is the fault that the row has, unless memory ran out
abbrev pub RowFailsAs : {Y : Type 0} → RowError → Result Y RowFault → Type 0
RowFailsAs errors.NoMem read = Unit {0}
RowFailsAs (errors.Fault why) read = read ≡ Err why

-- the result, seen by `view`, is what the row says, unless memory ran out
abbrev pub ReadsRow : {X Y : Type 0} → (X → Y) → Result X RowError → Result Y RowFault → Type 0
ReadsRow view (Ok x) read = read ≡ Ok (view x)
ReadsRow view (Err error) read = RowFailsAs error read

-- what was read, or the fault of the row at a place
abbrev pub or_bad_row : {X : Type 0} → Table → ℕ → Result X RowError → Result X TableFault
or_bad_row table place (Ok x) = Ok x
or_bad_row table place (Err errors.NoMem) = Err faults.NoMem
or_bad_row table place (Err (errors.Fault why)) = Err (faults.BadRow table place why)

-- a row as definitions see it: its place and its text
abbrev pub row_view : TableRow → ℕ × List ℕ
row_view row = (row.place, row.text.now)
