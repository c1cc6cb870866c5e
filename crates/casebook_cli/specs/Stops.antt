-- Why there is no answer.
use Rattle.std.specs.Prelude.{◌≡◌, ◌≢◌, ℕ, true, IfSome, List, [], Option, Some, None, Ok, Err}
use Rattle.regex.specs.Sources.{IsRefusal as IsRefusedAs}
use Rattle.regex.specs.declared.error.Error.{Error}
use Rattle.regex.specs.declared.error.Error.TheVariants.{OutOfMemory}
use Rattle.retro_keep.specs.Recording.{RecordingValue, noted_at}
use Rattle.retro_keep.specs.declared.noted.Noted.{Noted}
use Rattle.casebook_account.specs.Accounts.{IsShownAccount}
use Rattle.casebook_account.specs.declared.account.Account.{Account}
use Rattle.casebook_case.specs.Written.{IsCaseOf}
use Rattle.casebook_status.specs.Status.{HasNoStatus}
use Rattle.casebook_text.specs.Item.{Line}
use Rattle.casebook_about.specs.declared.labels.Labels.{Labels}
use Rattle.casebook_request.specs.Sources.{repair_sources, sources_of}
use Rattle.casebook_request.specs.Request.{LinesRequest, Query, RepairRequest, Request, ShowRequest, ask}
use Rattle.casebook_request.specs.Request.{case_log, cat, check, help, lines, page, patch, request_in, show}
use Rattle.casebook_request.specs.Request.{CompareValue, FolderRepair}
use Rattle.casebook_request.specs.Request.{compare, import, observe, restore, script, snapshot, start, status, undo}
use Rattle.casebook_request.specs.declared.problem.Problem.TheVariants as problems
use Rattle.casebook_request.specs.declared.shown.ShownPart.{ShownPart}
use Rattle.casebook_request.specs.declared.shown.ShownPart.TheVariants as parts
use Rattle.casebook_repairs.specs.Stops.{IsUnread, IsUnreadIf, NamesCase, StopsAccount, StopsAsked, StopsLabels, StopsReading}
use Rattle.casebook_repairs.specs.Documents.{AllDocuments}
use Rattle.casebook_repairs.specs.Inputs.{AreInputs, DocumentValue, InputsValue, IsDocument}
use Rattle.casebook_repairs.specs.Labels.{AreLabels, times_in}
use Rattle.casebook_cli.specs.Bytes.{StopsBytes}
use Rattle.casebook_cli.specs.Lines.{pattern_config, sessions_named}
use Rattle.casebook_repairs.specs.Repairs.{IsAsked}
use Rattle.casebook_cli.specs.Typed.{lacks_times}
use Rattle.casebook_folder_cli.specs.Folders.{AllFolders}
use Rattle.casebook_folder_cli.specs.ScriptWords.{ScriptValue}
use Rattle.casebook_folder_cli.specs.Scripting.{IsNoScript}
use Rattle.casebook_folder_cli.specs.Sources.{source_name}
use Rattle.casebook_folder_cli.specs.Taking.{IsNotCompared, IsNotTaken}
use Rattle.casebook_folder_cli.specs.Words.{compared_name}
use Rattle.casebook_folder_cli.specs.declared.file_fault.FileFault.{FileFault}
use Rattle.casebook_folder_cli.specs.declared.file_fault.FileFault.TheVariants as files
use Rattle.casebook_folder_cli.specs.declared.scripting.ScriptFault.{ScriptFault}
use Rattle.casebook_folder_cli.specs.declared.scripting.ScriptFault.TheVariants as script_faults
use Rattle.casebook_folder_cli.specs.declared.source_fault.SourceFault.{SourceFault}
use Rattle.casebook_folder_cli.specs.declared.source_fault.SourceFault.TheVariants as source_faults
use Rattle.casebook_recorder_cli.specs.Spools.{AllSpools}
use Rattle.casebook_recorder_cli.specs.Taking.{IsNotTaken as IsRecordNotTaken}
use Rattle.casebook_recorder_cli.specs.Words.{ImportValue, ObserveValue, StartValue, StatusValue}
use Rattle.casebook_recorder_cli.specs.declared.fault.RecorderFault.{RecorderFault}
use Rattle.casebook_recorder_cli.specs.declared.fault.RecorderFault.TheVariants as recorder_faults
use Rattle.casebook_recording.specs.Logs.{IsNoLog}
use Rattle.casebook_recording.specs.Refusals.{refusal_of}
use Rattle.casebook_recording.specs.declared.recording_fault.RecordingFault.{RecordingFault}
use Rattle.casebook_cli.specs.Scripts.{AreScriptInputs, ScriptInputs, parts_of, table_name}
use Rattle.casebook_repairs.specs.declared.repairs.AskedRepair.{AskedRepair}
use Rattle.casebook_repairs.specs.declared.searched.SearchedPart.{SearchedPart}
use Rattle.casebook_repairs.specs.declared.searched.SearchedPart.TheVariants as searched_in
use Rattle.casebook_repairs.specs.declared.stop.Stop.{Stop}
use Rattle.casebook_repairs.specs.declared.stop.Stop.TheVariants as stops

-- ---- rows of lines

-- A text isn't a regular expression, or is too large a one.
pub record IsNoPattern (given : Option (List ℕ)) : Type 0 where
  pub text : List ℕ
  pub is : given ≡ Some text
  pub error : Error
  pub memory : error ≢ OutOfMemory
  pub refused : IsRefusedAs pattern_config text error

-- a pattern is refused
abbrev pub StopsPattern : Option (List ℕ) → SearchedPart → Stop → Type 0
StopsPattern given wanted (stops.BadPattern searched) = (searched ≡ wanted) × IsNoPattern given
StopsPattern given wanted stops.OutOfMemory = Unit {0}
StopsPattern given wanted other = ⊥

pub data StopsPatterns (request : LinesRequest) (stop : Stop) : Type 0 where
  no_text : StopsPattern request.text searched_in.Text stop → StopsPatterns request stop
  no_shown : StopsPattern request.shown searched_in.Outputs stop → StopsPatterns request stop

-- no line is of a session with the name that is given
abbrev pub StopsUser : Labels → List (ℕ × Noted) → Option (List ℕ) → Stop → Type 0
StopsUser labels known (Some name) stops.NoUser = sessions_named labels known name ≡ []
StopsUser labels known user stops.OutOfMemory = Unit {0}
StopsUser labels known user other = ⊥

pub data StopsLines (inputs : InputsValue) (request : LinesRequest) (stop : Stop) : Type 0 where
  no_patterns : StopsPatterns request stop → StopsLines inputs request stop
  no_account : StopsAccount inputs.log stop → StopsLines inputs request stop
  no_labels : (account : Account) → IsShownAccount inputs.log.bytes account
      → StopsLabels account.machine inputs.about stop → StopsLines inputs request stop
  no_times : (account : Account) → IsShownAccount inputs.log.bytes account
      → lacks_times request.bounds (times_in account.machine inputs.about) ≡ true
      → stop ≡ stops.BadWords problems.NoTimes → StopsLines inputs request stop
  no_user : (account : Account) (labels : Labels) → IsShownAccount inputs.log.bytes account
      → AreLabels account.machine inputs.about labels
      → StopsUser labels account.recording.lines request.user stop → StopsLines inputs request stop
  no_memory : stop ≡ stops.OutOfMemory → StopsLines inputs request stop

-- ---- repairs

-- no line has the number that is asked about
abbrev pub IsNoLine : ℕ → RecordingValue → Stop → Type 0
IsNoLine number r (stops.NoLine named) = (named ≡ number) × (noted_at number r.lines ≡ None)
IsNoLine number r stops.OutOfMemory = Unit {0}
IsNoLine number r other = ⊥

abbrev pub StopsShown : ShownPart → RecordingValue → Stop → Type 0
StopsShown (parts.Line number) r stop = IsNoLine number r stop
StopsShown other r stop = stop ≡ stops.OutOfMemory

pub data StopsShow (inputs : InputsValue) (request : ShowRequest) (stop : Stop) : Type 0 where
  not_asked : StopsAsked inputs request.repair stop → StopsShow inputs request stop
  not_shown : (asked : AskedRepair) → IsAsked inputs request.repair asked
      → StopsShown request.shown asked.recording stop → StopsShow inputs request stop

-- ---- cases

-- There is no log of a case, for a fault that its bytes or its lines have.
pub record StopsCase (document : DocumentValue) (stop : Stop) : Type 0 where
  pub fault : RecordingFault
  pub is_fault : IsNoLog document.bytes fault
  pub names : NamesCase document.name (refusal_of fault) stop

-- ---- requests

-- a question about documents isn't answered for this reason
abbrev pub StopsBy : InputsValue → Query → Stop → Type 0
StopsBy inputs (lines request) stop = StopsLines inputs request stop
StopsBy inputs (show request) stop = StopsShow inputs request stop
StopsBy inputs (page request) stop = StopsAsked inputs request.repair stop
StopsBy inputs (cat request) stop = StopsBytes inputs request stop
StopsBy inputs (patch request) stop = StopsAsked inputs request stop
StopsBy inputs (check log) stop = stop ≡ stops.OutOfMemory
StopsBy inputs (case_log case) stop = StopsCase inputs.log stop

pub data StopsQuery (at : AllDocuments) (query : Query) (stop : Stop) : Type 0 where
  unread : StopsReading at (sources_of query) stop → StopsQuery at query stop
  refused : (inputs : InputsValue) → AreInputs at (sources_of query) inputs → StopsBy inputs query stop
      → StopsQuery at query stop

-- ---- snapshots

-- the folder or the file with a name can't be read
abbrev pub IsUnreadable : List ℕ → Stop → Type 0
IsUnreadable wanted (stops.ReadFailed name hindrance) = name.now ≡ wanted
IsUnreadable wanted other = ⊥

-- what has a name is no directory
abbrev pub IsNoDirectory : List ℕ → Stop → Type 0
IsNoDirectory wanted (stops.NotADirectory name) = name.now ≡ wanted
IsNoDirectory wanted other = ⊥

-- the file with a name has this fault
abbrev pub IsBadFile : List ℕ → FileFault → Stop → Type 0
IsBadFile wanted fault (stops.BadFile name found) = (name.now ≡ wanted) × (found ≡ fault)
IsBadFile wanted fault other = ⊥

-- the source with a name is named, with the fault for which there is no snapshot of it
abbrev pub NamesSource : List ℕ → SourceFault → Stop → Type 0
NamesSource name source_faults.NoMem stop = stop ≡ stops.OutOfMemory
NamesSource name source_faults.Unreadable stop = IsUnreadable name stop
NamesSource name source_faults.NotADirectory stop = IsNoDirectory name stop
NamesSource name (source_faults.BadFile fault) stop = IsBadFile name fault stop

-- There is no snapshot of the source with a name, for a fault of a kind.
pub record StopsSnapshot (IsFault : SourceFault → Type 0) (name : List ℕ) (stop : Stop) : Type 0 where
  pub fault : SourceFault
  pub is_fault : IsFault fault
  pub names : NamesSource name fault stop

-- there is no comparison: the log can't be read or isn't one, or there is no snapshot
pub data StopsCompare (at : AllDocuments) (folders : AllFolders) (request : CompareValue) (stop : Stop)
    : Type 0 where
  no_document : IsUnread at request.log stop → StopsCompare at folders request stop
  no_account : (document : DocumentValue) → IsDocument at request.log document → StopsAccount document stop
      → StopsCompare at folders request stop
  no_snapshot : StopsSnapshot (IsNotCompared folders request.snapshot) (compared_name request.snapshot) stop
      → StopsCompare at folders request stop
  no_memory : stop ≡ stops.OutOfMemory → StopsCompare at folders request stop

-- ---- restores

-- the name of an undo file, if one is given
abbrev pub undo_name : Option (List ℕ) → List ℕ
undo_name None = []
undo_name (Some name) = name

-- a folder isn't restored, by its name and that of the undo file
abbrev pub StopsFolder : List ℕ → List ℕ → Stop → Type 0
StopsFolder root file (stops.ReadFailed name hindrance) = name.now ≡ root
StopsFolder root file (stops.NotADirectory name) = name.now ≡ root
StopsFolder root file (stops.UndoFailed name) = name.now ≡ file
StopsFolder root file (stops.BadUndo name) = name.now ≡ file
StopsFolder root file (stops.OtherUndo name) = name.now ≡ file
StopsFolder root file (stops.FolderChanged name) = name.now ≡ root
StopsFolder root file (stops.Unfinished name) = name.now ≡ root
StopsFolder root file stops.OutOfMemory = Unit {0}
StopsFolder root file other = ⊥

-- there is no repair of the documents that are named
pub data StopsRepairOf (at : AllDocuments) (request : RepairRequest) (stop : Stop) : Type 0 where
  no_documents : StopsReading at (repair_sources request) stop → StopsRepairOf at request stop
  no_repair_of : (inputs : InputsValue) → AreInputs at (repair_sources request) inputs
      → StopsAsked inputs request stop → StopsRepairOf at request stop

pub data StopsRestore (at : AllDocuments) (request : FolderRepair) (stop : Stop) : Type 0 where
  not_repaired : StopsRepairOf at request.repair stop → StopsRestore at request stop
  not_restored : StopsFolder request.folder.root (undo_name request.folder.undo) stop → StopsRestore at request stop

-- ---- scripts

-- the file is named that has the fault for which there is no script
abbrev pub NamesFault : ScriptValue → ScriptFault → Stop → Type 0
NamesFault names script_faults.NoMem stop = stop ≡ stops.OutOfMemory
NamesFault names (script_faults.Document fault) stop = IsBadFile names.document (files.Document fault) stop
NamesFault names (script_faults.Table fault) stop = IsBadFile (table_name names fault) (files.Table fault) stop

-- there is no script: a file can't be read, or one has a fault
pub data StopsScript (at : AllDocuments) (names : ScriptValue) (stop : Stop) : Type 0 where
  no_file : IsUnread at names.document stop → StopsScript at names stop
  no_sessions : IsUnread at names.sessions stop → StopsScript at names stop
  no_lines : IsUnread at names.lines stop → StopsScript at names stop
  no_script : (inputs : ScriptInputs) → AreScriptInputs at names inputs → (fault : ScriptFault)
      → IsNoScript (parts_of inputs) fault → NamesFault names fault stop → StopsScript at names stop

-- ---- the recorder

-- the spool with a name has this fault
abbrev pub IsBadSpool : List ℕ → RecorderFault → Stop → Type 0
IsBadSpool wanted fault (stops.Recorder name found) = (name.now ≡ wanted) × (found ≡ fault)
IsBadSpool wanted fault other = ⊥

-- the spool with a name is named, with the fault for which it isn't made, takes no record or has no
-- case
abbrev pub NamesSpool : List ℕ → RecorderFault → Stop → Type 0
NamesSpool name recorder_faults.NoMem stop = stop ≡ stops.OutOfMemory
NamesSpool name fault stop = IsBadSpool name fault stop

-- There is no spool with a name.
pub record StopsStart (request : StartValue) (stop : Stop) : Type 0 where
  pub fault : RecorderFault
  pub names : NamesSpool request.spool fault stop

-- A record isn't taken: what was sent or the spool has a fault.
pub record StopsObserve (spools : Option AllSpools) (request : ObserveValue) (stop : Stop) : Type 0 where
  pub fault : RecorderFault
  pub is_fault : IfSome spools (λ all. IsRecordNotTaken all request.spool fault)
  pub names : NamesSpool request.spool fault stop

-- There is no case of a spool.
pub record StopsImport (request : ImportValue) (stop : Stop) : Type 0 where
  pub fault : RecorderFault
  pub names : NamesSpool request.spool fault stop

-- a text is no case with a status, and the spool with a name is named, with the reason
pub record StopsTold (name text : List ℕ) (stop : Stop) : Type 0 where
  pub fault : RecordingFault
  pub is_fault : HasNoStatus text fault
  pub names : NamesCase name (refusal_of fault) stop

-- It isn't said what a spool has: it can't be read, the list of logins can't be read, or the spool's
-- case can't be told.
pub data StopsStatus (at : AllDocuments) (spools : Option AllSpools) (request : StatusValue) (stop : Stop) : Type 0 where
  no_spool : (fault : RecorderFault) → NamesSpool request.spool fault stop → StopsStatus at spools request stop
  no_list : IsUnreadIf at request.who stop → StopsStatus at spools request stop
  no_memory : stop ≡ stops.OutOfMemory → StopsStatus at spools request stop
  untold : (case : List ℕ) → IfSome spools (λ all. IsCaseOf (all.held request.spool) (all.unseen request.spool) case)
      → StopsTold request.spool case stop → StopsStatus at spools request stop

-- ---- the program

abbrev pub Stops : AllDocuments → AllFolders → Option AllSpools → Request → Stop → Type 0
Stops at folders spools (help topic) stop = stop ≡ stops.OutOfMemory
Stops at folders spools (ask query) stop = StopsQuery at query stop
Stops at folders spools (snapshot request) stop =
    StopsSnapshot (IsNotTaken folders request.source) (source_name request.source) stop
Stops at folders spools (compare request) stop = StopsCompare at folders request stop
Stops at folders spools (restore request) stop = StopsRestore at request stop
Stops at folders spools (undo request) stop = StopsFolder request.root request.undo stop
Stops at folders spools (script request) stop = StopsScript at request stop
Stops at folders spools (start request) stop = StopsStart request stop
Stops at folders spools (observe request) stop = StopsObserve spools request stop
Stops at folders spools (import request) stop = StopsImport request stop
Stops at folders spools (status request) stop = StopsStatus at spools request stop

-- words make no request
abbrev pub IsBadWords : List (List ℕ) → Stop → Type 0
IsBadWords words (stops.BadWords problem) = request_in words ≡ Err problem
IsBadWords words stops.OutOfMemory = Unit {0}
IsBadWords words other = ⊥

pub data StopsWords (words : List (List ℕ)) (at : AllDocuments) (folders : AllFolders) (spools : Option AllSpools)
    (stop : Stop) : Type 0 where
  bad_words : IsBadWords words stop → StopsWords words at folders spools stop
  no_answer : (request : Request) → request_in words ≡ Ok request → Stops at folders spools request stop
      → StopsWords words at folders spools stop
