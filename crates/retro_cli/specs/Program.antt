-- What the program does: the first refusal of a command line and an input, the texts that answer a
-- request, and what a run leaves. Each command adds a row to `request_refusal` and to `Answered`.
use Rattle.std.specs.Prelude.{◌≡◌, ℕ, List, Option, Some, None, IsSome, IsOk, Result, Ok, Err, codes, option_map}
use Rattle.std.specs.Prelude.{if◌then◌else◌, nat_lt, not, true}
use Rattle.std.specs.Result.{result_err}
use Rattle.std.specs.Io.KnownBytes.{Appends}
use Rattle.retro_tree.specs.declared.state.State.{State}
use Rattle.retro_keep.specs.Script.{ScriptValue}
use Rattle.retro_keep.specs.Edit.{edit, edit_of}
use Rattle.retro_keep.specs.declared.edit.Edit.{Edit}
use Rattle.retro_keep.specs.declared.edit_fault.EditRefusal.{EditRefusal}
use Rattle.retro_keep.specs.declared.edit_fault.EditRefusal.TheVariants.{BeforeCheckpoint, TwoEdits, NoSuchLine}
use Rattle.retro_keep.specs.Runs.{Output, outcome}
use Rattle.retro_keep.specs.Recording.{RecordingValue, IsRecordingOf}
use Rattle.retro_keep.specs.Recording as recordings
use Rattle.retro_keep.specs.Trim.{trimmed}
use Rattle.retro_redo.specs.Editing.{AreAccepted, edits_of_lines}
use Rattle.retro_redo.specs.Repair.{IsRepair}
use Rattle.retro_redo.specs.RepairFault.{fault_number}
use Rattle.retro_redo.specs.Settled.{AreSettled}
use Rattle.retro_redo.specs.declared.repair.Repair.{Repair}
use Rattle.retro_redo.specs.declared.repair_fault.RepairFault.TheVariants.{NoCut, TooManyWorkers}
use Rattle.retro_rounds.specs.Refusals.{are_cuts}
use Rattle.retro_rounds.specs.declared.rounds_request.TheConstants.{MAX_WORKERS}
use Rattle.retro_log.specs.Document.{script_in, log_in}
use Rattle.retro_log.specs.LogText.{log_text}
use Rattle.retro_json.specs.NoNul.{recording_without_nul}
use Rattle.retro_json.specs.Numbers.{refusal_number}
use Rattle.retro_json.specs.declared.fault.Refusal.{Refusal}
use Rattle.retro_edge.specs.Output.{AppendsPart}
use Rattle.retro_cli.specs.Report.{replay_text}
use Rattle.retro_cli.specs.RepairReport.{repair_text}
use Rattle.retro_cli.specs.Words.{RepairOptions, Request, replay, record_script, check_log, repair, relog}
use Rattle.retro_cli.specs.Words.{request_in, trim}
use Rattle.retro_cli.specs.declared.stop.TheConstants.{BAD_WORDS, BEFORE_CHECKPOINT, TWO_EDITS, UNKNOWN_LINE}
use Rattle.retro_cli.specs.declared.exit.Exit.{Exit}
use Rattle.retro_cli.specs.declared.exit.Exit.TheVariants as exits

abbrev pub Text : Type 0
Text = List ℕ

-- ---- the report of a replay

abbrev pub report : State × List Output → Text
report (state, outputs) = replay_text outputs state

-- the numbers of refusals of edits
abbrev pub edit_number : EditRefusal → ℕ
edit_number (TwoEdits n) = TWO_EDITS
edit_number (BeforeCheckpoint n) = BEFORE_CHECKPOINT
edit_number (NoSuchLine n) = UNKNOWN_LINE

-- the report of running all lines of a script, unless its edits are refused
abbrev pub replay_script : Result ScriptValue EditRefusal → Result Text ℕ
replay_script (Ok script) = Ok (report (outcome script.lines script.first))
replay_script (Err refusal) = Err (edit_number refusal)

abbrev pub replay_document : List Edit → Result ScriptValue Refusal → Result Text ℕ
replay_document edits (Ok script) = replay_script (edit edits script)
replay_document edits (Err refusal) = Err (refusal_number refusal)

-- the report, or the number of the first refusal: of the document, then of the edits
unfoldable pub replay_answer : List Edit → Text → Result Text ℕ
replay_answer edits input = replay_document edits (script_in input)

-- ---- the log of a script, and the answer to whether a log is a recording

-- a text is read as a recording, unless a name in it has a NUL
abbrev pub IsReadAgain : RecordingValue → Text → Type 0
IsReadAgain recording text = recording_without_nul recording ≡ true → log_in text ≡ Ok recording

-- a text is the log of a recording, from line 1 on, of the script that the input is
pub record IsLogOf (input text : Text) : Type 0 where
  pub script : ScriptValue
  pub is_script : script_in input ≡ Ok script
  pub recording : RecordingValue
  pub recorded : IsRecordingOf script recording
  pub begins : recording.from ≡ 1
  pub is_log : text ≡ log_text recording
  pub again : IsReadAgain recording text

-- the input is the log of a recording of its lines
pub record IsRecordedLog (input : Text) : Type 0 where
  pub recording : RecordingValue
  pub is_log : log_in input ≡ Ok recording
  pub recorded : IsRecordingOf (recordings.script_in recording) recording

-- `yes` only for a recording, and `no` for a log
abbrev pub IsVerdict : Text → Exit → Text → Type 0
IsVerdict input exits.Done text = IsRecordedLog input × (text ≡ codes "yes\n")
IsVerdict input exits.CheckNo text = IsOk (log_in input) × (text ≡ codes "no\n")
IsVerdict input (exits.Refused number) text = ⊥
IsVerdict input exits.OutOfMemory text = ⊥
IsVerdict input exits.ReadFailed text = ⊥
IsVerdict input exits.WriteFailed text = ⊥

-- ---- the report of a repair of a log, and the log of the repaired recording

-- The repair is one of the log in the input. If the log is a recording of its lines, the repair is
-- exact: its state and outputs are those of running the edited lines one by one. For any log, also
-- a forged one, the repair is what choices for its lines come to, and it begins at the same number.
pub record IsRepairOf (edits : List Edit) (input : Text) (repair : Repair) : Type 0 where
  pub recording : RecordingValue
  pub is_log : log_in input ≡ Ok recording
  pub accepted : AreAccepted edits recording
  pub is_repair : IsRecordingOf (recordings.script_in recording) recording
      → IsRepair (edit_of edits) recording repair
  pub settled : AreSettled (edit_of edits) recording repair

-- the text is the report of a repair of the log in the input
abbrev pub IsRepairReport : List Edit → Text → Text → Type 0
IsRepairReport edits input text =
    (repair : Repair) × (is : IsRepairOf edits input repair) × (text ≡ repair_text is.recording repair)

-- the text is the log of the repaired recording, of any log
pub record IsRepairedLog (edits : List Edit) (input text : Text) : Type 0 where
  pub repair : Repair
  pub is_repair : IsRepairOf edits input repair
  pub is_log : text ≡ log_text repair.recording
  pub again : IsReadAgain repair.recording text

-- ---- the log that begins at a number

-- the log of the lines from a number on over the recorded state before them, or the number of the
-- refusal if the recording begins later
abbrev pub trim_recording : ℕ → RecordingValue → Result Text ℕ
trim_recording number recording =
    if nat_lt number recording.from then Err BEFORE_CHECKPOINT else Ok (log_text (trimmed number recording))

abbrev pub trim_document : ℕ → Result RecordingValue Refusal → Result Text ℕ
trim_document number (Ok recording) = trim_recording number recording
trim_document number (Err refusal) = Err (refusal_number refusal)

-- the trimmed log, or the number of the first refusal: of the document, then of the number
unfoldable pub trim_answer : ℕ → Text → Result Text ℕ
trim_answer number input = trim_document number (log_in input)

-- the text is the trimmed log of the log in the input, which may be forged
pub record IsTrimmedLog (number : ℕ) (input text : Text) : Type 0 where
  pub recording : RecordingValue
  pub is_log : log_in input ≡ Ok recording
  pub is_answer : trim_answer number input ≡ Ok text
  pub again : IsReadAgain (trimmed number recording) text

-- ---- refusals

abbrev pub document_refusal : {Y : Type 0} → Result Y Refusal → Option ℕ
document_refusal document = option_map refusal_number (result_err document)

-- the number of the first refusal of a repair of a recording: too many workers, then no cuts or a
-- zero among them, then two different edits of a line, then an edit of a line before the recording
-- begins, then an edit of a number that no line has
abbrev pub options_refusal : RepairOptions → RecordingValue → Option ℕ
options_refusal options recording =
    if nat_lt MAX_WORKERS options.workers then Some (fault_number TooManyWorkers)
    else if not (are_cuts options.cuts) then Some (fault_number NoCut)
    else option_map edit_number (result_err (edits_of_lines options.edits recording))

-- the number of the first refusal of a repair: of the log, then of the options
abbrev pub repair_refusal : RepairOptions → Result RecordingValue Refusal → Option ℕ
repair_refusal options (Ok recording) = options_refusal options recording
repair_refusal options (Err refusal) = Some (refusal_number refusal)

-- the number of the first refusal of a request about an input
abbrev pub request_refusal : Request → Text → Option ℕ
request_refusal (replay edits) input = result_err (replay_answer edits input)
request_refusal record_script input = document_refusal (script_in input)
request_refusal check_log input = document_refusal (log_in input)
request_refusal (repair options) input = repair_refusal options (log_in input)
request_refusal (relog options) input = repair_refusal options (log_in input)
request_refusal (trim number) input = result_err (trim_answer number input)

abbrev pub refusal_in : Option Request → Text → Option ℕ
refusal_in None input = Some BAD_WORDS
refusal_in (Some request) input = request_refusal request input

-- the number of the first refusal: of the words, then of the request
unfoldable pub refusal_of : List Text → Text → Option ℕ
refusal_of words input = refusal_in (request_in words) input

-- ---- answers

-- whether a text answers a request about an input, and the program ends so once it is written
abbrev pub Answered : Request → Text → Exit → Text → Type 0
Answered (replay edits) input exit text = (exit ≡ exits.Done) × (replay_answer edits input ≡ Ok text)
Answered record_script input exit text = (exit ≡ exits.Done) × IsLogOf input text
Answered check_log input exit text = IsVerdict input exit text
Answered (repair options) input exit text = (exit ≡ exits.Done) × IsRepairReport options.edits input text
Answered (relog options) input exit text = (exit ≡ exits.Done) × IsRepairedLog options.edits input text
Answered (trim number) input exit text = (exit ≡ exits.Done) × IsTrimmedLog number input text

-- the answer to words about an input, of which nothing is refused
pub record Answers (words : List Text) (input : Text) (exit : Exit) (text : Text) : Type 0 where
  pub request : Request
  pub words_ask : request_in words ≡ Some request
  pub accepted : request_refusal request input ≡ None
  pub answered : Answered request input exit text

-- ---- a run

-- whether the words lead to such an exit: bad ones to refusal 31 or out of memory alone
abbrev pub WordsAllow : List Text → Exit → Type 0
WordsAllow words exits.Done = IsSome (request_in words)
WordsAllow words exits.CheckNo = request_in words ≡ Some check_log
WordsAllow words (exits.Refused number) = request_in words ≡ None → number ≡ BAD_WORDS
WordsAllow words exits.OutOfMemory = Unit {0}
WordsAllow words exits.ReadFailed = IsSome (request_in words)
WordsAllow words exits.WriteFailed = IsSome (request_in words)

-- an answer to words about an input was written whole, and the program ends so
abbrev pub Wrote : List Text → Text → Option Text → Option Text → Exit → Type 0
Wrote words input old new exit = (text : Text) × Answers words input exit text × Appends old new text

-- what a run on words and an input leaves: `old` and `new` are what the writer held before and
-- after
abbrev pub Runs : List Text → Text → Option Text → Option Text → Exit → Type 0
Runs words input old new exits.Done = Wrote words input old new exits.Done
Runs words input old new exits.CheckNo = Wrote words input old new exits.CheckNo
Runs words input old new (exits.Refused number) = refusal_of words input ≡ Some number
Runs words input old new exits.OutOfMemory = Unit {0}
Runs words input old new exits.ReadFailed = Unit {0}
Runs words input old new exits.WriteFailed =
    (exit : Exit) × (text : Text) × Answers words input exit text × AppendsPart old new text
