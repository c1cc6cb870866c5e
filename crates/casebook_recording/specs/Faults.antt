-- Faults of the crates below, as those of a recording.
use Rattle.casebook_case.specs.declared.case_fault.CaseFault.{CaseFault}
use Rattle.casebook_case.specs.declared.case_fault.CaseFault.TheVariants as cases
use Rattle.casebook_explain.specs.declared.tell_fault.TellFault.{TellFault}
use Rattle.casebook_explain.specs.declared.tell_fault.TellFault.TheVariants as tells
use Rattle.casebook_import.specs.declared.import_error.ImportError.{ImportError}
use Rattle.casebook_import.specs.declared.import_error.ImportError.TheVariants as imports
use Rattle.casebook_typed.specs.declared.typed_error.TypedError.{TypedError}
use Rattle.casebook_typed.specs.declared.typed_error.TypedError.TheVariants as typings
use Rattle.casebook_recording.specs.declared.recording_fault.RecordingFault.{RecordingFault}
use Rattle.casebook_recording.specs.declared.recording_fault.RecordingFault.TheVariants as faults

abbrev pub of_case : CaseFault → RecordingFault
of_case cases.NoMem = faults.NoMem
of_case fault = faults.Case fault

abbrev pub of_typed : TypedError → RecordingFault
of_typed typings.NoMem = faults.NoMem
of_typed (typings.Contradiction at) = faults.Contradiction at

abbrev pub of_import : ImportError → RecordingFault
of_import imports.NoMem = faults.NoMem
of_import imports.TooManySessions = faults.TooManySessions

abbrev pub of_tell : TellFault → RecordingFault
of_tell tells.NoMem = faults.NoMem
of_tell tells.LawlessState = faults.LawlessState
of_tell (tells.Line place fault) = faults.Line place fault
of_tell tells.TooManyLines = faults.TooManyLines
