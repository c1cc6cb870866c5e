-- Why folders aren't restored.
use Rattle.std.specs.Prelude.{Bool, true, false}
use Rattle.casebook_folder.specs.declared.folder_error.FolderError.{FolderError}
use Rattle.casebook_folder.specs.declared.folder_error.FolderError.TheVariants as errors
use Rattle.casebook_snapshot.specs.declared.error.SnapshotError.{SnapshotError}
use Rattle.casebook_snapshot.specs.declared.error.SnapshotError.TheVariants as snapshots
use Rattle.casebook_folder_cli.specs.declared.restore_fault.RestoreFault.{RestoreFault}
use Rattle.casebook_folder_cli.specs.declared.restore_fault.RestoreFault.TheVariants as faults

-- a folder can't be opened
abbrev pub fault_of_reading : SnapshotError → RestoreFault
fault_of_reading snapshots.NoMem = faults.NoMem
fault_of_reading snapshots.Failed = faults.Unreadable
fault_of_reading snapshots.NotADirectory = faults.NotADirectory

-- a folder can't be looked at
abbrev pub fault_of_look : FolderError → RestoreFault
fault_of_look errors.NoMem = faults.NoMem
fault_of_look error = faults.Unreadable

-- a plan isn't carried out to its end
abbrev pub fault_of_steps : FolderError → RestoreFault
fault_of_steps errors.Differs = faults.Differs
fault_of_steps error = faults.Unfinished

-- whether steps were made before the fault
abbrev pub is_unfinished : RestoreFault → Bool
is_unfinished faults.Unfinished = true
is_unfinished other = false
