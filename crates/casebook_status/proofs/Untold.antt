-- Why a text has no status.
use Rattle.std.proofs.Common.{◌≡◌, ℕ, List, Ok}
use Rattle.casebook_case.specs.Reading.{case_in}
use Rattle.casebook_case.specs.declared.case.Case.{Case}
use Rattle.casebook_recording.specs.Told.{IsUntold}
use Rattle.casebook_recording.specs.declared.recording_fault.RecordingFault.{RecordingFault}
use Rattle.casebook_recording.specs.declared.recording_fault.RecordingFault.TheVariants as faults
use Rattle.casebook_status.specs.Status.{HasNoStatus}

pub no_status : (text : List ℕ) (case : Case) → case_in text ≡ Ok case → (fault : RecordingFault)
    → IsUntold case fault → HasNoStatus text fault
no_status text case is faults.NoMem h = tt
no_status text case is (faults.Case fault) h = absurd h
no_status text case is (faults.Contradiction at) h = record { case = case; is_case = is; is_fault = h }
no_status text case is faults.TooManySessions h = record { case = case; is_case = is; is_fault = h }
no_status text case is faults.LawlessState h = record { case = case; is_case = is; is_fault = h }
no_status text case is (faults.Line place fault) h = record { case = case; is_case = is; is_fault = h }
no_status text case is faults.TooManyLines h = record { case = case; is_case = is; is_fault = h }
