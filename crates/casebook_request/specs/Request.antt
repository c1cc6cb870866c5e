-- What the words of the command line ask for.
use Rattle.std.specs.Prelude.{ℕ, ◌-◌, ◌==◌, Bool, true, false, ◌&&◌, ◌||◌, List, [], ◌∷◌, Option, Some, None, Result, Ok, Err, codes}
use Rattle.std.specs.Prelude.{if◌then◌else◌, is_none, is_some, length, nat_eq, ok_or}
use Rattle.std.specs.List.{slice_get}
use Rattle.std.specs.Cmp.Lexicographic.{pointwise}
use Rattle.clap.specs.Words.{Text}
use Rattle.retro_path.specs.Ascii.{slash}
use Rattle.retro_path.specs.Resolving.{resolve}
use Rattle.retro_path.specs.declared.resolving.Resolved.{Resolved}
use Rattle.retro_path.specs.declared.resolving.Resolved.TheVariants.{Is, Empty, LongName}
use Rattle.retro_json.specs.Replacements.{replacements_in}
use Rattle.retro_keep.specs.declared.edit.Edit.{Edit}
use Rattle.retro_text.specs.Numbers.{number_in}
use Rattle.casebook_folder_cli.specs.RestoreWords.{RestoreValue, UndoValue, restore_in, undo_in}
use Rattle.casebook_folder_cli.specs.ScriptWords.{ScriptValue, script_asked}
use Rattle.casebook_folder_cli.specs.Words.{ComparedValue, SnapshotValue, compared_in, snapshot_in}
use Rattle.casebook_folder_cli.specs.declared.request.FolderFault.{FolderFault}
use Rattle.casebook_folder_cli.specs.declared.request.FolderFault.TheVariants as folder_faults
use Rattle.casebook_folder_cli.specs.declared.request.FolderProblem.{FolderProblem}
use Rattle.casebook_recorder_cli.specs.Words.{ImportValue, ObserveValue, StartValue, StatusValue}
use Rattle.casebook_recorder_cli.specs.Words.{import_in, observe_in, start_in, status_in}
use Rattle.casebook_recorder_cli.specs.declared.request.RecorderProblem.{RecorderProblem}
use Rattle.casebook_recorder_cli.specs.declared.request.WordsFault.{WordsFault as RecorderFault}
use Rattle.casebook_recorder_cli.specs.declared.request.WordsFault.TheVariants as recorder_faults
use Rattle.casebook_request.specs.Bounds.{bound_in, last_bound_in}
use Rattle.retro_edge.specs.Numbers.{numbers_in}
use Rattle.retro_edge.specs.Calls.{Call, Named, called, given, named_in, nothing, refused}
use Rattle.casebook_request.specs.Words.{program}
use Rattle.casebook_request.specs.declared.bound.Bound.{Bound}
use Rattle.casebook_request.specs.declared.bounds.Bounds.{Bounds}
use Rattle.casebook_request.specs.declared.format.Format.{Format}
use Rattle.casebook_request.specs.declared.format.Format.TheVariants as formats
use Rattle.casebook_request.specs.declared.folder_help.TheConstants.{COMPARE, RESTORE, SCRIPT, SNAPSHOT}
use Rattle.casebook_request.specs.declared.document_help.TheConstants.{DOCUMENTS, LISTS, PROFILE, REFUSALS}
use Rattle.casebook_request.specs.declared.help.TheConstants.{PROGRAM, LINES, SHOW, PAGE, CAT, PATCH, CHECK}
use Rattle.casebook_request.specs.declared.recorder_help.TheConstants.{IMPORT, LOG, OBSERVE, STATUS}
use Rattle.casebook_request.specs.declared.path_filters.NamedPath.{NamedPath}
use Rattle.casebook_request.specs.declared.path_filters.PathFilters.{PathFilters}
use Rattle.casebook_request.specs.declared.problem.Problem.{Problem}
use Rattle.casebook_request.specs.declared.problem.Problem.TheVariants as problems
use Rattle.casebook_request.specs.declared.repair_request.BytesOf.{BytesOf}
use Rattle.casebook_request.specs.declared.repair_request.BytesOf.TheVariants.{File, Output}
use Rattle.casebook_request.specs.declared.shown.Extras.{Extras}
use Rattle.casebook_request.specs.declared.shown.ShownPart.{ShownPart}
use Rattle.casebook_request.specs.declared.shown.ShownPart.TheVariants as parts
use Rattle.casebook_request.specs.declared.topic.Topic.{Topic}
use Rattle.casebook_request.specs.declared.topic.Topic.TheVariants as topics
use Rattle.casebook_request.specs.declared.words.WordsFault.{WordsFault}
use Rattle.casebook_request.specs.declared.words.WordsFault.TheVariants as faults

-- ---- requests

-- which lines of which log are shown, and how: those of a user and of a session, if they are given,
-- that are between bounds, that read and wrote such paths, and in which patterns are found
pub record LinesRequest : Type 0 where
  pub log : Text
  pub about : Option Text
  pub user : Option Text
  pub session : Option ℕ
  pub bounds : Bounds
  pub paths : PathFilters
  pub text : Option Text
  pub shown : Option Text
  pub is_unknown : Bool
  pub format : Format

-- how lines are run ahead in parallel: by so many threads beside the first one, and in pieces of so
-- many lines
pub record RoundsValue : Type 0 where
  pub workers : ℕ
  pub cuts : List ℕ

-- the repair of which log, without which lines, with which lines replaced, run how, and which names
-- and times
pub record RepairRequest : Type 0 where
  pub log : Text
  pub cancel : Text
  pub replacements : List Edit
  pub rounds : Option RoundsValue
  pub about : Option Text

-- which repair is shown, and what of it
pub record ShowRequest : Type 0 where
  pub repair : RepairRequest
  pub shown : ShownPart

-- the page of which repair, with which title, and whether all lines are on it
pub record PageRequest : Type 0 where
  pub repair : RepairRequest
  pub title : Option Text
  pub all : Bool

-- the bytes of which file, or of what line's output, a repair would have
pub record CatRequest : Type 0 where
  pub repair : RepairRequest
  pub bytes : BytesOf

-- a question about documents: which lines are in a log, what a repair would do, that as a page, which
-- bytes it would have, what it would do to files as a patch, whether a document is a recording of its
-- lines, or a script, and which log explains a case
pub data Query : Type 0 where
  lines : LinesRequest → Query
  show : ShowRequest → Query
  page : PageRequest → Query
  cat : CatRequest → Query
  patch : RepairRequest → Query
  check : Text → Query
  case_log : Text → Query

-- which recording is compared with which snapshot
pub record CompareValue : Type 0 where
  pub log : Text
  pub snapshot : ComparedValue

-- which repair is brought into which folder
pub record FolderRepair : Type 0 where
  pub repair : RepairRequest
  pub folder : RestoreValue

pub data Request : Type 0 where
  help : Topic → Request
  ask : Query → Request
  snapshot : SnapshotValue → Request
  compare : CompareValue → Request
  restore : FolderRepair → Request
  undo : UndoValue → Request
  script : ScriptValue → Request
  start : StartValue → Request
  observe : ObserveValue → Request
  import : ImportValue → Request
  status : StatusValue → Request

-- ---- steps, of which the first problem ends them

infixl 10 ◌>>=◌
abbrev pub ◌>>=◌ : {A B : Type 0} → Result A Problem → (A → Result B Problem) → Result B Problem
(Ok x) >>= f = f x
(Err problem) >>= f = Err problem

-- ---- help

abbrev pub is_text : Text → Text → Bool
is_text wanted text = pointwise nat_eq text wanted

unfoldable pub topic_in : Text → Option Topic
topic_in text =
    if is_text (codes "lines") text then Some topics.Lines
    else if is_text (codes "show") text then Some topics.Show
    else if is_text (codes "page") text then Some topics.Page
    else if is_text (codes "cat") text then Some topics.Cat
    else if is_text (codes "patch") text then Some topics.Patch
    else if is_text (codes "check") text then Some topics.Check
    else if is_text (codes "snapshot") text then Some topics.Snapshot
    else if is_text (codes "compare") text then Some topics.Compare
    else if is_text (codes "restore") text then Some topics.Restore
    else if is_text (codes "script") text then Some topics.Script
    else if is_text (codes "observe") text then Some topics.Observe
    else if is_text (codes "import") text then Some topics.Import
    else if is_text (codes "status") text then Some topics.Status
    else if is_text (codes "log") text then Some topics.Log
    else if is_text (codes "lists") text then Some topics.Lists
    else if is_text (codes "documents") text then Some topics.Documents
    else if is_text (codes "refusals") text then Some topics.Refusals
    else if is_text (codes "profile") text then Some topics.Profile else None

-- what help is about that is asked for by the command `help`
abbrev pub topic_asked : Option Text → Result Topic Problem
topic_asked None = Ok topics.Program
topic_asked (Some text) = ok_or (topic_in text) problems.Topic

-- what help is about that is asked for by an option of a command
abbrev pub topic_or_program : Option Topic → Topic
topic_or_program None = topics.Program
topic_or_program (Some topic) = topic

abbrev pub help_text : Topic → Text
help_text topics.Program = PROGRAM.now
help_text topics.Lines = LINES.now
help_text topics.Show = SHOW.now
help_text topics.Page = PAGE.now
help_text topics.Cat = CAT.now
help_text topics.Patch = PATCH.now
help_text topics.Check = CHECK.now
help_text topics.Snapshot = SNAPSHOT.now
help_text topics.Compare = COMPARE.now
help_text topics.Restore = RESTORE.now
help_text topics.Script = SCRIPT.now
help_text topics.Observe = OBSERVE.now
help_text topics.Import = IMPORT.now
help_text topics.Status = STATUS.now
help_text topics.Log = LOG.now
help_text topics.Lists = LISTS.now
help_text topics.Documents = DOCUMENTS.now
help_text topics.Refusals = REFUSALS.now
help_text topics.Profile = PROFILE.now

-- ---- what a command is given

-- whether an option without a value is given
abbrev pub is_set : Option Text → Bool
is_set None = false
is_set (Some text) = is_text (codes "true") text

abbrev pub is_given : Text → Call → Bool
is_given name call = is_set (given name call)

abbrev pub log_given : Call → Result Text Problem
log_given call = ok_or (given (codes "log") call) problems.NoLog

abbrev pub case_given : Call → Result Text Problem
case_given call = ok_or (given (codes "case") call) problems.NoCase

abbrev pub some_or : {A : Type 0} → Problem → Option A → Result (Option A) Problem
some_or problem None = Err problem
some_or problem (Some x) = Ok (Some x)

-- the meaning of an option's text, which may be missing
abbrev pub read_option : {A : Type 0} → Problem → (Text → Option A) → Option Text → Result (Option A) Problem
read_option problem meaning None = Ok None
read_option problem meaning (Some text) = some_or problem (meaning text)

-- ---- paths

abbrev pub named_path : Bool → Resolved → Option NamedPath
named_path below (Is path) = Some (record { path = path; below = below })
named_path below Empty = None
named_path below LongName = None

abbrev pub begins_at_root : Text → Bool
begins_at_root [] = false
begins_at_root (b ∷ text) = b == slash

abbrev pub is_slash : Option ℕ → Bool
is_slash None = false
is_slash (Some b) = b == slash

-- whether the last byte is a slash
abbrev pub ends_with_slash : Text → Bool
ends_with_slash text = is_slash (slice_get text (length text - 1))

-- The path that a text names, which begins at the root. The paths below it count too if the text
-- ends with a slash.
unfoldable pub path_in : Text → Option NamedPath
path_in text = if begins_at_root text then named_path (ends_with_slash text) (resolve [] text) else None

abbrev pub paths_with : Option NamedPath → Option NamedPath → Option NamedPath → PathFilters
paths_with reads writes touches = record { reads = reads; writes = writes; touches = touches }

-- the paths that a command is given
abbrev pub path_filters : Call → Result PathFilters Problem
path_filters call = do
  reads ← read_option problems.Reads path_in (given (codes "reads") call)
  writes ← read_option problems.Writes path_in (given (codes "writes") call)
  touches ← read_option problems.Touches path_in (given (codes "touches") call)
  Ok (paths_with reads writes touches)

-- ---- bounds

abbrev pub bounds_with : Option Bound → Option Bound → Bounds
bounds_with from to = record { from = from; to = to }

abbrev pub bounds_given : Call → Result Bounds Problem
bounds_given call = do
  from ← read_option problems.From bound_in (given (codes "from") call)
  to ← read_option problems.To last_bound_in (given (codes "to") call)
  Ok (bounds_with from to)

-- ---- standard input, which can be read once

abbrev pub is_input : Option Text → Bool
is_input None = false
is_input (Some name) = is_text (codes "-") name

-- whether more than one of a log, a list and a document with names and times is standard input
abbrev pub is_input_twice : Text → Text → Option Text → Bool
is_input_twice log list about =
    let from_log = is_text (codes "-") log in
    let from_list = is_text (codes "@-") list in
    (from_log && from_list) || ((from_log || from_list) && is_input about)

-- standard input isn't needed twice
abbrev pub once : Text → Text → Option Text → Result (Unit {0}) Problem
once log list about = if is_input_twice log list about then Err problems.InputTwice else Ok tt

-- ---- formats

unfoldable pub format_named : Text → Option Format
format_named text =
    if is_text (codes "text") text then Some formats.Text
    else if is_text (codes "tsv") text then Some formats.Tsv
    else if is_text (codes "numbers") text then Some formats.Numbers else None

-- text, unless another format is given
abbrev pub format_given : Option Text → Result Format Problem
format_given None = Ok formats.Text
format_given (Some text) = ok_or (format_named text) problems.Format

-- ---- requests

abbrev pub lines_with : Text → Option ℕ → Bounds → PathFilters → Call → Format → LinesRequest
lines_with log session bounds paths call format = record {
  log = log;
  about = given (codes "about") call;
  user = given (codes "user") call;
  session = session;
  bounds = bounds;
  paths = paths;
  text = given (codes "text") call;
  shown = given (codes "shown") call;
  is_unknown = is_given (codes "unknown") call;
  format = format;
}

abbrev pub lines_request : Call → Result LinesRequest Problem
lines_request call = do
  log ← log_given call
  session ← read_option problems.Session number_in (given (codes "session") call)
  bounds ← bounds_given call
  paths ← path_filters call
  format ← format_given (given (codes "format") call)
  read ← once log [] (given (codes "about") call)
  Ok (lines_with log session bounds paths call format)

-- ---- repairs

-- the list of lines to cancel, which may be left out if lines are replaced
abbrev pub cancel_or_none : Option Text → Option Text → Result Text Problem
cancel_or_none (Some list) replace = Ok list
cancel_or_none None (Some replacements) = Ok []
cancel_or_none None None = Err problems.NoList

abbrev pub cancel_given : Call → Result Text Problem
cancel_given call = cancel_or_none (given (codes "cancel") call) (given (codes "replace") call)

-- the edits of the lines whose text is replaced: none, if no option lists them
abbrev pub replacements_given : Option Text → Result (List Edit) Problem
replacements_given None = Ok []
replacements_given (Some text) = ok_or (replacements_in text) problems.Replace

-- one thread alone, and rounds of at most 64 lines, unless something else is given
abbrev pub workers_or_none : Option ℕ → ℕ
workers_or_none None = 0
workers_or_none (Some workers) = workers

abbrev pub cuts_or_usual : Option (List ℕ) → List ℕ
cuts_or_usual None = 64 ∷ []
cuts_or_usual (Some cuts) = cuts

-- how lines are run ahead in parallel: they aren't, if nothing is given
abbrev pub rounds_with : Option ℕ → Option (List ℕ) → Option RoundsValue
rounds_with None None = None
rounds_with workers cuts = Some (record { workers = workers_or_none workers; cuts = cuts_or_usual cuts })

abbrev pub rounds_given : Call → Result (Option RoundsValue) Problem
rounds_given call = do
  workers ← read_option problems.Workers number_in (given (codes "workers") call)
  cuts ← read_option problems.Cuts numbers_in (given (codes "cuts") call)
  Ok (rounds_with workers cuts)

abbrev pub repair_with : Text → Text → List Edit → Option RoundsValue → Call → RepairRequest
repair_with log cancel replacements rounds call = record {
  log = log;
  cancel = cancel;
  replacements = replacements;
  rounds = rounds;
  about = given (codes "about") call;
}

abbrev pub repair_request : Call → Result RepairRequest Problem
repair_request call = do
  log ← log_given call
  cancel ← cancel_given call
  replacements ← replacements_given (given (codes "replace") call)
  rounds ← rounds_given call
  read ← once log cancel (given (codes "about") call)
  Ok (repair_with log cancel replacements rounds call)

-- whether a repair is shown for programs
unfoldable pub show_format : Option Text → Result Bool Problem
show_format None = Ok false
show_format (Some text) =
    if is_text (codes "text") text then Ok false
    else if is_text (codes "json") text then Ok true else Err problems.RepairFormat

-- one line, if its number is given, and otherwise the summary with what else is asked for; for
-- programs the summary is all
abbrev pub shown_as : Bool → Extras → Option ℕ → Result ShownPart Problem
shown_as false extras None = Ok (parts.Summary extras)
shown_as false extras (Some number) = Ok (parts.Line number)
shown_as true extras line =
    if extras.why || (extras.diff || is_some line) then Err problems.MixedFormat else Ok parts.Json

abbrev pub extras_of : Call → Extras
extras_of call = record { why = is_given (codes "why") call; diff = is_given (codes "diff") call }

abbrev pub shown_of : Call → Result ShownPart Problem
shown_of call = do
  line ← read_option problems.Line number_in (given (codes "line") call)
  is_json ← show_format (given (codes "format") call)
  shown_as is_json (extras_of call) line

abbrev pub show_request : Call → Result ShowRequest Problem
show_request call = do
  repair ← repair_request call
  shown ← shown_of call
  Ok (record { repair = repair; shown = shown })

abbrev pub page_request : Call → Result PageRequest Problem
page_request call = do
  repair ← repair_request call
  Ok (record { repair = repair; title = given (codes "title") call; all = is_given (codes "all") call })

-- of what bytes are wanted: of the file at a path, or of what a line prints
abbrev pub bytes_with : Option NamedPath → Option ℕ → Result BytesOf Problem
bytes_with (Some named) None = Ok (File named.path)
bytes_with None (Some number) = Ok (Output number)
bytes_with None None = Err problems.NoPath
bytes_with (Some named) (Some number) = Err problems.PathAndLine

abbrev pub bytes_given : Call → Result BytesOf Problem
bytes_given call = do
  path ← read_option problems.Path path_in (given (codes "path") call)
  line ← read_option problems.Line number_in (given (codes "line") call)
  bytes_with path line

abbrev pub cat_request : Call → Result CatRequest Problem
cat_request call = do
  repair ← repair_request call
  bytes ← bytes_given call
  Ok (record { repair = repair; bytes = bytes })

abbrev pub result_map : {A B : Type 0} → (A → B) → Result A Problem → Result B Problem
result_map f (Ok x) = Ok (f x)
result_map f (Err problem) = Err problem

-- the question of a command, which isn't asked for help
unfoldable pub query_in : Call → Result Query Problem
query_in call =
    if is_text (codes "lines") call.name then result_map lines (lines_request call)
    else if is_text (codes "show") call.name then result_map show (show_request call)
    else if is_text (codes "page") call.name then result_map page (page_request call)
    else if is_text (codes "cat") call.name then result_map cat (cat_request call)
    else if is_text (codes "patch") call.name then result_map patch (repair_request call)
    else if is_text (codes "check") call.name then result_map check (log_given call)
    else if is_text (codes "log") call.name then result_map case_log (case_given call)
    else Err problems.Words

-- what is wrong with the words of a command about folders
abbrev pub folder_result : Result SnapshotValue FolderProblem → Result Request Problem
folder_result (Ok request) = Ok (snapshot request)
folder_result (Err problem) = Err (problems.Folder problem)

abbrev pub compare_with : Text → Result ComparedValue FolderProblem → Result CompareValue Problem
compare_with log (Ok compared) = Ok (record { log = log; snapshot = compared })
compare_with log (Err problem) = Err (problems.Folder problem)

-- what `compare` asks for
abbrev pub compare_in : Call → Result CompareValue Problem
compare_in call = log_given call >>= (λ log. compare_with log (compared_in (is_given (codes "mounts") call) call))

abbrev pub in_folder : {A B : Type 0} → (A → B) → Result A FolderProblem → Result B Problem
in_folder f (Ok x) = Ok (f x)
in_folder f (Err problem) = Err (problems.Folder problem)

abbrev pub into_folder : RepairRequest → RestoreValue → FolderRepair
into_folder repair folder = record { repair = repair; folder = folder }

-- which repair `restore` brings into which folder
abbrev pub folder_repair_in : Call → Result FolderRepair Problem
folder_repair_in call = do
  repair ← repair_request call
  in_folder (into_folder repair) (restore_in (is_given (codes "apply") call) call)

-- `restore` takes a restore back if it has an undo file, and no log
abbrev pub is_undo : Call → Bool
is_undo call = is_none (given (codes "log") call) && is_some (given (codes "undo") call)

-- what `restore` asks for
abbrev pub restore_asked : Call → Result Request Problem
restore_asked call =
    if is_undo call then in_folder undo (undo_in (is_given (codes "apply") call) call)
    else result_map restore (folder_repair_in call)

abbrev pub in_recorder : {A B : Type 0} → (A → B) → Result A RecorderProblem → Result B Problem
in_recorder f (Ok x) = Ok (f x)
in_recorder f (Err problem) = Err (problems.Recorder problem)

-- what `observe` asks for: it makes a spool, or takes a record
abbrev pub observe_asked : Call → Result Request Problem
observe_asked call =
    if is_given (codes "start") call then in_recorder start (start_in call)
    else in_recorder observe (observe_in call)

-- the request of a command
unfoldable pub command_request : Call → Result Request Problem
command_request call =
    if is_given (codes "help") call then Ok (help (topic_or_program (topic_in call.name)))
    else if is_text (codes "help") call.name then result_map help (topic_asked (given (codes "command") call))
    else if is_text (codes "snapshot") call.name
    then folder_result (snapshot_in (is_given (codes "mounts") call) call)
    else if is_text (codes "compare") call.name then result_map compare (compare_in call)
    else if is_text (codes "restore") call.name then restore_asked call
    else if is_text (codes "script") call.name then in_folder script (script_asked call)
    else if is_text (codes "observe") call.name then observe_asked call
    else if is_text (codes "import") call.name then in_recorder import (import_in call)
    else if is_text (codes "status") call.name then in_recorder status (status_in call)
    else result_map ask (query_in call)

abbrev pub request_of : Named → Result Request Problem
request_of refused = Err problems.Words
request_of nothing = Ok (help topics.Program)
request_of (called call) = command_request call

-- what the words ask for, or what is wrong with them
unfoldable pub request_in : List Text → Result Request Problem
request_in words = request_of (named_in program words)

-- ---- values of the code

abbrev pub folder_fault : FolderFault → WordsFault
folder_fault folder_faults.NoMem = faults.NoMem
folder_fault (folder_faults.Bad problem) = faults.Bad (problems.Folder problem)

abbrev pub recorder_fault : RecorderFault → WordsFault
recorder_fault recorder_faults.NoMem = faults.NoMem
recorder_fault (recorder_faults.Bad problem) = faults.Bad (problems.Recorder problem)
