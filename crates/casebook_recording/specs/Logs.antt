-- The log of a case.
use Rattle.std.specs.Prelude.{◌≡◌, ◌≤◌, ◌⊎◌, ◌^◌, ℕ, List, Ok, Err, flat_map, length, ⊤}
use Rattle.retro_keep.specs.Recording.{RecordingValue}
use Rattle.retro_log.specs.LogText.{log_text}
use Rattle.casebook_case.specs.Reading.{case_in}
use Rattle.casebook_case.specs.declared.case.Case.{Case}
use Rattle.casebook_explain.specs.Noting.{recorded_lines, texts_of}
use Rattle.casebook_explain.specs.Value.{ToldValue}
use Rattle.casebook_explain.specs.declared.noting.Noting.TheVariants.{RunsAlone}
use Rattle.casebook_recording.specs.Told.{IsToldOf, IsUntold}
use Rattle.casebook_recording.specs.declared.recording_fault.RecordingFault.{RecordingFault}
use Rattle.casebook_recording.specs.declared.recording_fault.RecordingFault.TheVariants as faults

-- the recording of told lines, with the notes of their runs alone
abbrev pub log_recording : ToldValue → RecordingValue
log_recording told =
    record { first = told.first; from = 1; lines = recorded_lines RunsAlone told.lines }

-- a recording is that of what tells the lines of a case
pub record IsRecordingOf (case : Case) (recording : RecordingValue) : Type 0 where
  pub told : ToldValue
  pub is_told : IsToldOf case told
  pub is_recording : recording ≡ log_recording told

-- a text is the log of such a recording of the case that bytes are
pub record IsLogOf (bytes text : List ℕ) : Type 0 where
  pub case : Case
  pub is_case : case_in bytes ≡ Ok case
  pub recording : RecordingValue
  pub is_recording : IsRecordingOf case recording
  pub is_log : text ≡ log_text recording

-- what tells the lines of a case has more texts than 32 bits can number
pub record HasManyTexts (case : Case) : Type 0 where
  pub told : ToldValue
  pub is_told : IsToldOf case told
  pub many : 2 ^ 32 ≤ length (flat_map (texts_of RunsAlone) told.lines)

-- why a case has no recording
abbrev pub IsUnrecorded : Case → RecordingFault → Type 0
IsUnrecorded case faults.TooManyLines = IsUntold case faults.TooManyLines ⊎ HasManyTexts case
IsUnrecorded case fault = IsUntold case fault

-- bytes are a case, and this is why it has no recording
pub record HasNone (bytes : List ℕ) (fault : RecordingFault) : Type 0 where
  pub case : Case
  pub is_case : case_in bytes ≡ Ok case
  pub is_fault : IsUnrecorded case fault

-- why bytes have no log: they are no case, or its lines have no recording
abbrev pub IsNoLog : List ℕ → RecordingFault → Type 0
IsNoLog bytes faults.NoMem = ⊤
IsNoLog bytes (faults.Case fault) = case_in bytes ≡ Err fault
IsNoLog bytes fault = HasNone bytes fault
