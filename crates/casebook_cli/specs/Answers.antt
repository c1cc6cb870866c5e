-- The answers to requests.
use Rattle.std.specs.Prelude.{◌≡◌, ℕ, Bool, false, IfSome, IsTrue, List, [], Option, Some}
use Rattle.casebook_account.specs.Accounts.{IsShownAccount}
use Rattle.casebook_account.specs.declared.account.Account.{Account}
use Rattle.casebook_case.specs.Written.{IsCaseOf}
use Rattle.casebook_observe.specs.Files.{SpoolFiles}
use Rattle.casebook_snapshot.specs.declared.snapshot.Snapshot.{Snapshot}
use Rattle.casebook_folder_cli.specs.Answers.{IsSnapshotOf}
use Rattle.casebook_folder_cli.specs.Comparing.{IsCompareAnswer}
use Rattle.casebook_folder_cli.specs.Folders.{AllFolders}
use Rattle.casebook_folder_cli.specs.RestoreWords.{RestoreValue, UndoValue}
use Rattle.casebook_folder_cli.specs.Restoring.{RepairedValue, IsRestoreAnswer, IsUndoAnswer}
use Rattle.casebook_folder_cli.specs.Words.{SnapshotValue}
use Rattle.casebook_folder_cli.specs.declared.comparing.CompareAnswer.{CompareAnswer}
use Rattle.casebook_folder_cli.specs.declared.restoring.RestoreAnswer.{RestoreAnswer}
use Rattle.casebook_recorder_cli.specs.Spools.{AllSpools}
use Rattle.casebook_recorder_cli.specs.Taking.{TakesRecord}
use Rattle.casebook_recorder_cli.specs.Words.{ImportValue, ObserveValue, StatusValue}
use Rattle.casebook_recording.specs.Logs.{IsLogOf}
use Rattle.casebook_status.specs.Status.{IsStatusIn}
use Rattle.casebook_status.specs.declared.status.Status.{Status}
use Rattle.casebook_text.specs.SafeLine.{text_of_lines}
use Rattle.retro_keep.specs.Recording.{last_state}
use Rattle.retro_redo.specs.Repair.{repaired_state}
use Rattle.casebook_request.specs.Sources.{repair_sources, sources_of}
use Rattle.casebook_request.specs.Request.{Query, Request, ask, case_log, cat, check, help, help_text, lines, page, patch, show}
use Rattle.casebook_request.specs.Request.{CompareValue, FolderRepair, RepairRequest, compare, restore, script}
use Rattle.casebook_request.specs.Request.{import, snapshot, observe, start, status, undo}
use Rattle.casebook_cli.specs.Bytes.{IsBytes}
use Rattle.casebook_cli.specs.Checks.{IsChecked}
use Rattle.casebook_repairs.specs.Attributes.{AreKnown}
use Rattle.casebook_repairs.specs.Documents.{AllDocuments}
use Rattle.casebook_cli.specs.Harmless.{IsHarmless, is_plain}
use Rattle.casebook_repairs.specs.Inputs.{AreInputs, DocumentValue, InputsValue, IsDocument, IsDocumentIf}
use Rattle.casebook_cli.specs.Lines.{AreLines}
use Rattle.casebook_cli.specs.Pages.{IsPage}
use Rattle.casebook_cli.specs.Patches.{IsPatch}
use Rattle.casebook_repairs.specs.Repairs.{IsAsked}
use Rattle.casebook_cli.specs.Screens.{IsShown}
use Rattle.casebook_cli.specs.Scripts.{IsScriptOf}
use Rattle.casebook_cli.specs.Status.{TablesValue, host_of, mounts_name}
use Rattle.casebook_repairs.specs.declared.repairs.AskedRepair.{AskedRepair}

-- an answer: its text, and whether it says that what was asked about isn't in order
pub record AnswerValue : Type 0 where
  pub text : List ℕ
  pub is_no : Bool

abbrev pub saying : List ℕ → AnswerValue
saying text = record { text = text; is_no = false }

-- The answer is a text of this kind, and doesn't say no.
pub record Says (IsText : List ℕ → Type 0) (answer : AnswerValue) : Type 0 where
  pub is_text : IsText answer.text
  pub is_no_refusal : answer.is_no ≡ false

-- the answer to a question about documents, with colours if they are wanted
abbrev pub AnswersBy : Bool → InputsValue → Query → AnswerValue → Type 0
AnswersBy colours inputs (lines request) answer = Says (AreLines inputs request) answer
AnswersBy colours inputs (show request) answer = Says (IsShown colours inputs request) answer
AnswersBy colours inputs (page request) answer = Says (IsPage inputs request) answer
AnswersBy colours inputs (cat request) answer = Says (IsBytes inputs request) answer
AnswersBy colours inputs (patch request) answer = Says (IsPatch inputs request) answer
AnswersBy colours inputs (check log) answer = IsChecked inputs.log answer.is_no answer.text
AnswersBy colours inputs (case_log case) answer = Says (IsLogOf inputs.log.bytes) answer

-- The answer to a question about the documents that it names. Plain text is harmless on a terminal,
-- whatever is in the documents.
pub record AnswersQuery (colours : Bool) (at : AllDocuments) (query : Query) (answer : AnswerValue) : Type 0 where
  pub inputs : InputsValue
  pub are_inputs : AreInputs at (sources_of query) inputs
  pub answers : AnswersBy colours inputs query answer
  pub harmless : IsTrue (is_plain colours query) → IsHarmless answer.text

-- the answer to a request for a snapshot: the document of one
abbrev pub AnswersSnapshot : AllFolders → SnapshotValue → AnswerValue → Type 0
AnswersSnapshot folders request answer =
    Says (λ text. (s : Snapshot) × IsSnapshotOf folders request s text) answer

-- The answer to a comparison: what it says of the recording of the log or of the case, as it is
-- shown, and of a snapshot of the folder, and no if a path isn't as recorded. It is harmless on a
-- terminal.
pub record AnswersCompare (at : AllDocuments) (folders : AllFolders) (request : CompareValue) (answer : AnswerValue)
    : Type 0 where
  pub document : DocumentValue
  pub is_document : IsDocument at request.log document
  pub account : Account
  pub is_account : IsShownAccount document.bytes account
  pub compared : CompareAnswer
  pub is_compared : IsCompareAnswer folders request.snapshot account.recording compared
  pub text : answer.text ≡ text_of_lines compared.lines.items
  pub is_no : answer.is_no ≡ compared.is_no
  pub harmless : IsHarmless answer.text

-- The repair that is asked for of the documents that it names.
pub record IsRepairOf (at : AllDocuments) (request : RepairRequest) (asked : AskedRepair) : Type 0 where
  pub inputs : InputsValue
  pub are_inputs : AreInputs at (repair_sources request) inputs
  pub is_asked : IsAsked inputs request asked

-- What is said of the plan that brings a folder from the end of the recording to that of its repair.
-- What the folder doesn't have gets the mode and owner that it was last seen to have after a line of
-- the repair.
pub record IsRestoreOf (folders : AllFolders) (request : RestoreValue) (asked : AskedRepair) (restored : RestoreAnswer)
    : Type 0 where
  pub tree : RepairedValue
  pub recorded : tree.recorded ≡ (last_state asked.recording.lines asked.recording.first).tree
  pub repaired : tree.repaired ≡ (repaired_state asked.repair).tree
  pub known : AreKnown asked.repair.recording.lines asked.attributes.items tree.known
  pub is_restored : IsRestoreAnswer folders request tree restored

-- An answer says this of the plan, and no if a path isn't ready. It is harmless on a terminal.
pub record SaysRestore (folders : AllFolders) (request : RestoreValue) (asked : AskedRepair) (answer : AnswerValue)
    : Type 0 where
  pub restored : RestoreAnswer
  pub is_restored : IsRestoreOf folders request asked restored
  pub text : answer.text ≡ text_of_lines restored.lines.items
  pub is_no : answer.is_no ≡ restored.is_no
  pub harmless : IsHarmless answer.text

-- the answer to a restore
pub record AnswersRestore (at : AllDocuments) (folders : AllFolders) (request : FolderRepair) (answer : AnswerValue)
    : Type 0 where
  pub asked : AskedRepair
  pub is_repair : IsRepairOf at request.repair asked
  pub says : SaysRestore folders request.folder asked answer

-- The same for a restore that is taken back by its undo file.
pub record AnswersUndo (folders : AllFolders) (request : UndoValue) (answer : AnswerValue) : Type 0 where
  pub bytes : List ℕ
  pub is_file : folders.undo_files request.undo ≡ Some bytes
  pub undone : RestoreAnswer
  pub is_undone : IsUndoAnswer folders request bytes undone
  pub text : answer.text ≡ text_of_lines undone.lines.items
  pub is_no : answer.is_no ≡ undone.is_no
  pub harmless : IsHarmless answer.text

-- The answer to a record that was sent: nothing is said, and the spool takes it. What the spool holds
-- then is `left`.
pub record AnswersObserve (spools : Option AllSpools) (request : ObserveValue) (answer : AnswerValue) : Type 0 where
  pub left : Option SpoolFiles
  pub takes : IfSome spools (λ all. TakesRecord all request.spool left)
  pub nothing : answer ≡ saying []

-- the answer to a request for a case: the document of the case of what the spool holds, and of where it
-- wasn't always seen what lines only read
abbrev pub AnswersImport : Option AllSpools → ImportValue → AnswerValue → Type 0
AnswersImport spools request answer =
    Says (λ text. IfSome spools (λ all. IsCaseOf (all.held request.spool) (all.unseen request.spool) text)) answer

-- The answer to `status`: the rows of the status of the spool's case, with the folders that it
-- watches, what the machine says is mounted where, and the list of logins that is named. It says no if
-- something is missing, and is harmless on a terminal.
pub record AnswersStatus (at : AllDocuments) (spools : Option AllSpools) (request : StatusValue) (answer : AnswerValue)
    : Type 0 where
  pub case : List ℕ
  pub is_case : IfSome spools (λ all. IsCaseOf (all.held request.spool) (all.unseen request.spool) case)
  pub tables : TablesValue
  pub folders : IfSome spools (λ all. tables.folders ≡ all.watched request.spool)
  pub mounts : tables.mounts ≡ at mounts_name
  pub who : IsDocumentIf at request.who tables.who
  pub status : Status
  pub is_status : IsStatusIn case (host_of tables) status
  pub text : answer.text ≡ text_of_lines status.rows.items
  pub is_no : answer.is_no ≡ status.lacks
  pub harmless : IsHarmless answer.text

abbrev pub Answers : Bool → AllDocuments → AllFolders → Option AllSpools → Request → AnswerValue → Type 0
Answers colours at folders spools (help topic) answer = answer ≡ saying (help_text topic)
Answers colours at folders spools (ask query) answer = AnswersQuery colours at query answer
Answers colours at folders spools (snapshot request) answer = AnswersSnapshot folders request answer
Answers colours at folders spools (compare request) answer = AnswersCompare at folders request answer
Answers colours at folders spools (restore request) answer = AnswersRestore at folders request answer
Answers colours at folders spools (undo request) answer = AnswersUndo folders request answer
Answers colours at folders spools (script request) answer = Says (IsScriptOf at request) answer
Answers colours at folders spools (start request) answer = answer ≡ saying []
Answers colours at folders spools (observe request) answer = AnswersObserve spools request answer
Answers colours at folders spools (import request) answer = AnswersImport spools request answer
Answers colours at folders spools (status request) answer = AnswersStatus at spools request answer
