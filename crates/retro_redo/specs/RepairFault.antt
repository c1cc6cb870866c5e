-- The numbers of refusals of repairs.
use Rattle.std.specs.Prelude.{ℕ}
use Rattle.retro_keep.specs.declared.edit_fault.EditRefusal.{EditRefusal}
use Rattle.retro_keep.specs.declared.edit_fault.EditRefusal.TheVariants as refusals
use Rattle.retro_redo.specs.declared.repair_fault.RepairFault.{RepairFault}
use Rattle.retro_redo.specs.declared.repair_fault.RepairFault.TheVariants.{NoSuchLine, NoCut, TooManyWorkers}
use Rattle.retro_redo.specs.declared.repair_fault.RepairFault.TheVariants.{TwoEdits, BeforeCheckpoint, OutOfMemory}

abbrev pub fault_number : RepairFault → ℕ
fault_number (TwoEdits n) = 26
fault_number (BeforeCheckpoint n) = 25
fault_number (NoSuchLine n) = 21
fault_number NoCut = 22
fault_number TooManyWorkers = 23
fault_number OutOfMemory = 24

-- the fault of a refusal of edits
abbrev pub fault_of : EditRefusal → RepairFault
fault_of (refusals.TwoEdits n) = TwoEdits n
fault_of (refusals.BeforeCheckpoint n) = BeforeCheckpoint n
fault_of (refusals.NoSuchLine n) = NoSuchLine n
