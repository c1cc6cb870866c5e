-- Why a case has no log, by the faults of the crates below.
use Rattle.std.proofs.Common.{◌≡◌, ◌≤◌, ◌^◌, ◌⊎◌, ℕ, List, Ok, length, inr, refl, sym, subst, ⊎_elim}
use Rattle.std.specs.Prelude.{flat_map}
use Rattle.casebook_case.specs.Reading.{case_in}
use Rattle.casebook_case.specs.declared.case.Case.{Case}
use Rattle.casebook_explain.specs.Noting.{texts_of}
use Rattle.casebook_explain.specs.Value.{ToldValue}
use Rattle.casebook_explain.specs.declared.noting.Noting.TheVariants.{RunsAlone}
use Rattle.casebook_explain.specs.declared.tell_fault.TellFault.{TellFault}
use Rattle.casebook_explain.specs.declared.tell_fault.TellFault.TheVariants as tells
use Rattle.casebook_import.specs.declared.import_error.ImportError.{ImportError}
use Rattle.casebook_import.specs.declared.import_error.ImportError.TheVariants as imports
use Rattle.casebook_recording.specs.Faults.{of_import, of_tell}
use Rattle.casebook_recording.specs.Logs.{IsNoLog, IsUnrecorded}
use Rattle.casebook_recording.specs.Told.{HasManySessions, IsToldOf}
use Rattle.casebook_recording.specs.declared.recording_fault.RecordingFault.{RecordingFault}
use Rattle.casebook_recording.specs.declared.recording_fault.RecordingFault.TheVariants as faults
use Rattle.casebook_recording.specs.inner.Imports.{IsNotImported}

pub not_imported : (case : Case) (error : ImportError)
    → (error ≡ imports.TooManySessions → HasManySessions case) → IsNotImported case (of_import error)
not_imported case imports.NoMem many = tt
not_imported case imports.TooManySessions many = many refl

-- told lines have too many texts
pub not_recorded : (case : Case) (told : ToldValue) → IsToldOf case told → (fault : TellFault)
    → fault ≡ tells.NoMem
    ⊎ fault ≡ tells.TooManyLines × 2 ^ 32 ≤ length (flat_map (texts_of RunsAlone) told.lines)
    → IsUnrecorded case (of_tell fault)
not_recorded case told is fault why =
    ⊎_elim
    (λ e. subst (λ f. IsUnrecorded case (of_tell f)) (sym e) tt)
    (λ h. subst (λ f. IsUnrecorded case (of_tell f)) (sym h.0)
    (inr (record { told = told; is_told = is; many = h.1 })))
    why

pub no_log : (bytes : List ℕ) (case : Case) → case_in bytes ≡ Ok case → (fault : RecordingFault)
    → IsUnrecorded case fault → IsNoLog bytes fault
no_log bytes case is faults.NoMem h = tt
no_log bytes case is (faults.Case fault) h = absurd h
no_log bytes case is (faults.Contradiction at) h = record { case = case; is_case = is; is_fault = h }
no_log bytes case is faults.TooManySessions h = record { case = case; is_case = is; is_fault = h }
no_log bytes case is faults.LawlessState h = record { case = case; is_case = is; is_fault = h }
no_log bytes case is (faults.Line place fault) h =
    record { case = case; is_case = is; is_fault = h }
no_log bytes case is faults.TooManyLines h = record { case = case; is_case = is; is_fault = h }
