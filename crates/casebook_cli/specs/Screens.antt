-- What a terminal shows of a repair.
use Rattle.std.specs.Prelude.{◌≡◌, ◌≢◌, None, ℕ, Bool, true, false, List, [], ◌++◌}
use Rattle.retro_keep.specs.Recording.{RecordingValue, IsRecordingOf, noted_at}
use Rattle.retro_keep.specs.Recording as recordings
use Rattle.retro_keep.specs.declared.edit.Edit.{Edit}
use Rattle.retro_redo.specs.declared.repair.Repair.{Repair}
use Rattle.casebook_view.specs.Sources.{SourceValue}
use Rattle.casebook_summary.specs.Summary.{IsSummary}
use Rattle.casebook_summary.specs.declared.summary.Summary.{Summary}
use Rattle.casebook_screen.specs.Diffs.{AreDiffs}
use Rattle.casebook_screen.specs.Screen.{IsScreen}
use Rattle.casebook_screen.specs.Told.{summary_told}
use Rattle.casebook_screen.specs.Why.{detail_told, whys_told}
use Rattle.casebook_about.specs.declared.labels.Labels.{Labels}
use Rattle.casebook_request.specs.Request.{ShowRequest}
use Rattle.casebook_request.specs.declared.shown.Extras.{Extras}
use Rattle.casebook_request.specs.declared.shown.ShownPart.{ShownPart}
use Rattle.casebook_request.specs.declared.shown.ShownPart.TheVariants as parts
use Rattle.casebook_repairs.specs.Inputs.{InputsValue}
use Rattle.casebook_repairs.specs.Repairs.{IsAsked, asked_source}
use Rattle.casebook_repairs.specs.declared.repairs.AskedRepair.{AskedRepair}
use Rattle.casebook_cli.specs.Colours.{shown_lines}
use Rattle.casebook_json.specs.Summary.{summary_text}

-- ---- summaries

-- What a repair by edits of lines from a source would do. It says that the log is as its lines run
-- only if it is a recording of them. Of lines that were seen on a machine that isn't said.
pub record IsSummaryOf (source : SourceValue) (edits : List Edit) (r : RecordingValue) (repair : Repair)
    (summary : Summary) : Type 0 where
  pub is_summary : IsSummary source edits r repair summary
  pub checked : summary.is_recording ≡ true → IsRecordingOf (recordings.script_in r) r

-- what is shown of a repair, and how: where the recording's lines come from, the recording, its
-- repair, what that would do, names and times, and whether the terminal has colours
pub record ScreenValue : Type 0 where
  pub source : SourceValue
  pub recording : RecordingValue
  pub repair : Repair
  pub summary : Summary
  pub labels : Labels
  pub colours : Bool

abbrev pub AreSummaryLines : ScreenValue → List (List ℕ) → Type 0
AreSummaryLines s lines = IsScreen (summary_told s.source s.recording s.summary s.labels) lines

-- the same for programs
abbrev pub IsJson : ScreenValue → List ℕ → Type 0
IsJson s text = text ≡ summary_text s.summary s.source s.labels

-- ---- reasons and differences

-- why lines are run again, if that is asked for
abbrev pub AreWhyLines : Bool → ScreenValue → List (List ℕ) → Type 0
AreWhyLines false s lines = lines ≡ []
AreWhyLines true s lines = IsScreen (whys_told s.recording s.repair s.summary s.labels) lines

-- how files and outputs differ, if that is asked for
abbrev pub AreDiffLines : Bool → ScreenValue → List (List ℕ) → Type 0
AreDiffLines false s lines = lines ≡ []
AreDiffLines true s lines = AreDiffs s.recording s.repair s.summary.restorations.items lines

-- ---- texts

-- The text is the summary with what else is asked for.
pub record IsScreenText (extras : Extras) (s : ScreenValue) (text : List ℕ) : Type 0 where
  pub summary : List (List ℕ)
  pub whys : List (List ℕ)
  pub diffs : List (List ℕ)
  pub are_summary : AreSummaryLines s summary
  pub are_whys : AreWhyLines extras.why s whys
  pub are_diffs : AreDiffLines extras.diff s diffs
  pub is_text : text ≡ shown_lines s.colours ((summary ++ whys) ++ diffs)

-- The text is one line in full, which there is.
pub record IsLineText (number : ℕ) (s : ScreenValue) (text : List ℕ) : Type 0 where
  pub exists : noted_at number s.recording.lines ≢ None
  pub lines : List (List ℕ)
  pub are_lines : IsScreen (detail_told s.recording s.repair s.summary s.labels number) lines
  pub is_text : text ≡ shown_lines s.colours lines

abbrev pub IsTextOf : ShownPart → ScreenValue → List ℕ → Type 0
IsTextOf (parts.Summary extras) s text = IsScreenText extras s text
IsTextOf (parts.Line number) s text = IsLineText number s text
IsTextOf parts.Json s text = IsJson s text

-- The text shows a recording of lines from a source and its repair by edits.
pub record IsShownOf (source : SourceValue) (edits : List Edit) (r : RecordingValue) (repair : Repair) (labels : Labels) (shown : ShownPart)
    (colours : Bool) (text : List ℕ) : Type 0 where
  pub summary : Summary
  pub is_summary : IsSummaryOf source edits r repair summary
  pub is_text : IsTextOf shown (record {
    source = source;
    recording = r;
    repair = repair;
    summary = summary;
    labels = labels;
    colours = colours;
  }) text

-- The text shows the repair of the log or of the case that is asked for.
pub record IsShown (colours : Bool) (inputs : InputsValue) (request : ShowRequest) (text : List ℕ) : Type 0 where
  pub asked : AskedRepair
  pub is_asked : IsAsked inputs request.repair asked
  pub is_shown : IsShownOf (asked_source asked) asked.edits.items asked.recording asked.repair asked.labels request.shown colours text
