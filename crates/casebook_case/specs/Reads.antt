-- What readers return.
use Rattle.std.specs.Prelude.{Option, Some, None, Result, Ok, Err}
use Rattle.retro_path.specs.OutOfMemory.{UnlessOutOfMemory}
use Rattle.casebook_observe.specs.declared.spool_error.SpoolError.{SpoolError}
use Rattle.casebook_observe.specs.declared.spool_error.SpoolError.TheVariants as errors
use Rattle.casebook_case.specs.declared.case_fault.CaseFault.{CaseFault}
use Rattle.casebook_case.specs.declared.case_fault.CaseFault.TheVariants as faults

-- the refusal of a fault, or None if memory ran out
abbrev pub refused : {Y : Type 0} → CaseFault → Option (Result Y CaseFault)
refused faults.NoMem = None
refused fault = Some (Err fault)

-- the result, seen by `view`, is what reading gives, unless memory ran out
abbrev pub Reads : {X Y : Type 0} → (X → Y) → Result X CaseFault → Result Y CaseFault → Type 0
Reads view result read = UnlessOutOfMemory (λ x. Ok (view x)) refused result read

abbrev pub fault_of_spool : SpoolError → CaseFault
fault_of_spool errors.NoMem = faults.NoMem
fault_of_spool errors.Failed = faults.Unread
