-- What is imported of a case.
use Rattle.std.specs.Prelude.{◌≡◌, Some, map, ⊤}
use Rattle.casebook_typed.specs.Lines.{records_of}
use Rattle.casebook_typed.specs.Observations.{observations}
use Rattle.casebook_typed.specs.Sessions.{steps_of}
use Rattle.casebook_typed.specs.Spans.{contradiction}
use Rattle.casebook_import.specs.Lines.{seen_value}
use Rattle.casebook_import.specs.declared.importing.Imported.{Imported}
use Rattle.casebook_case.specs.declared.case.Case.{Case}
use Rattle.casebook_recording.specs.Told.{HasManySessions, seen_in, state_in}
use Rattle.casebook_recording.specs.declared.recording_fault.RecordingFault.{RecordingFault}
use Rattle.casebook_recording.specs.declared.recording_fault.RecordingFault.TheVariants as faults

-- the state before the lines of a case, and what each of them was seen to do
pub record IsImportOf (case : Case) (imported : Imported) : Type 0 where
  pub first : imported.first ≡ state_in case
  pub lines : map seen_value imported.lines.items ≡ seen_in case

-- why they aren't imported
abbrev pub IsNotImported : Case → RecordingFault → Type 0
IsNotImported case faults.NoMem = ⊤
IsNotImported case (faults.Contradiction at) =
    contradiction (steps_of (records_of (observations case.lines.said))) ≡ Some at
IsNotImported case faults.TooManySessions = HasManySessions case
IsNotImported case fault = ⊥
