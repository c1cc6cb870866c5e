-- The values of the code as the definitions have them.
use Rattle.std.specs.Prelude.{Option, Some, None, Result, Ok, Err, option_map}
use Rattle.retro_tree.specs.OutOfMemory.{UnlessOutOfMemory}
use Rattle.casebook_folder_cli.specs.Views.{compared_view, request_view as snapshot_view, restore_view, script_view}
use Rattle.casebook_folder_cli.specs.Views.{undo_view}
use Rattle.casebook_recorder_cli.specs.Views.{import_view, observe_view, start_view, status_view}
use Rattle.casebook_request.specs.Request.{CatRequest, LinesRequest, PageRequest, Query, RepairRequest, Request}
use Rattle.casebook_request.specs.Request.{CompareValue, RoundsValue, ShowRequest, ask, case_log, check, compare, help, lines}
use Rattle.casebook_request.specs.Request.{cat, page, patch, show}
use Rattle.casebook_request.specs.Request.{FolderRepair, import, observe, restore, script, snapshot, start, status, undo}
use Rattle.casebook_request.specs.Sources.{SourcesValue}
use Rattle.casebook_request.specs.declared.lines_request.LinesRequest.{LinesRequest as LinesCode}
use Rattle.casebook_request.specs.declared.problem.Problem.{Problem}
use Rattle.casebook_request.specs.declared.query.Query.{Query as QueryCode}
use Rattle.casebook_request.specs.declared.query.Query.TheVariants as queries
use Rattle.casebook_request.specs.declared.repair_request.CatRequest.{CatRequest as CatCode}
use Rattle.casebook_request.specs.declared.repair_request.PageRequest.{PageRequest as PageCode}
use Rattle.casebook_request.specs.declared.repair_request.RepairRequest.{RepairRequest as RepairCode}
use Rattle.casebook_request.specs.declared.repair_request.ShowRequest.{ShowRequest as ShowCode}
use Rattle.casebook_request.specs.declared.request.CompareRequest.{CompareRequest}
use Rattle.casebook_request.specs.declared.request.FolderRepair.{FolderRepair as FolderRepairCode}
use Rattle.casebook_request.specs.declared.request.Request.{Request as RequestCode}
use Rattle.casebook_request.specs.declared.request.Request.TheVariants as requests
use Rattle.casebook_request.specs.declared.rounds.Rounds.{Rounds as RoundsCode}
use Rattle.casebook_request.specs.declared.sources.Sources.{Sources}
use Rattle.casebook_request.specs.declared.words.WordsFault.{WordsFault}
use Rattle.casebook_request.specs.declared.words.WordsFault.TheVariants as faults

abbrev pub lines_view : LinesCode → LinesRequest
lines_view request = record {
  log = request.log.now;
  about = option_map (λ s. s.now) request.about;
  user = option_map (λ s. s.now) request.user;
  session = request.session;
  bounds = request.bounds;
  paths = request.paths;
  text = option_map (λ s. s.now) request.text;
  shown = option_map (λ s. s.now) request.shown;
  is_unknown = request.is_unknown;
  format = request.format;
}

abbrev pub rounds_view : RoundsCode → RoundsValue
rounds_view rounds = record { workers = rounds.workers; cuts = rounds.cuts.items }

abbrev pub repair_view : RepairCode → RepairRequest
repair_view request = record {
  log = request.log.now;
  cancel = request.cancel.now;
  replacements = request.replacements.items;
  rounds = option_map rounds_view request.rounds;
  about = option_map (λ s. s.now) request.about;
}

abbrev pub show_view : ShowCode → ShowRequest
show_view request = record { repair = repair_view request.repair; shown = request.shown }

abbrev pub page_view : PageCode → PageRequest
page_view request = record {
  repair = repair_view request.repair;
  title = option_map (λ s. s.now) request.title;
  all = request.all;
}

abbrev pub cat_view : CatCode → CatRequest
cat_view request = record { repair = repair_view request.repair; bytes = request.bytes }

abbrev pub query_view : QueryCode → Query
query_view (queries.Lines request) = lines (lines_view request)
query_view (queries.Show request) = show (show_view request)
query_view (queries.Page request) = page (page_view request)
query_view (queries.Cat request) = cat (cat_view request)
query_view (queries.Patch request) = patch (repair_view request)
query_view (queries.Check log) = check log.now
query_view (queries.Log case) = case_log case.now

abbrev pub compare_view : CompareRequest → CompareValue
compare_view request = record { log = request.log.now; snapshot = compared_view request.snapshot }

abbrev pub folder_repair_view : FolderRepairCode → FolderRepair
folder_repair_view request = record {
  repair = repair_view request.repair;
  folder = restore_view request.folder;
}

abbrev pub request_view : RequestCode → Request
request_view (requests.Help topic) = help topic
request_view (requests.Ask query) = ask (query_view query)
request_view (requests.Snapshot request) = snapshot (snapshot_view request)
request_view (requests.Compare request) = compare (compare_view request)
request_view (requests.Restore request) = restore (folder_repair_view request)
request_view (requests.Undo request) = undo (undo_view request)
request_view (requests.Script request) = script (script_view request)
request_view (requests.Start request) = start (start_view request)
request_view (requests.Observe request) = observe (observe_view request)
request_view (requests.Import request) = import (import_view request)
request_view (requests.Status request) = status (status_view request)

abbrev pub sources_view : Sources → SourcesValue
sources_view sources = record {
  log = sources.log.now;
  list = option_map (λ s. s.now) sources.list;
  about = option_map (λ s. s.now) sources.about;
}

-- what a fault says of the words: what is wrong with them, or None if memory ran out
abbrev pub refused : {Y : Type 0} → WordsFault → Option (Result Y Problem)
refused faults.NoMem = None
refused (faults.Bad problem) = Some (Err problem)

-- the result is as defined, unless memory ran out
abbrev pub Means : {X Y : Type 0} → (X → Y) → Result X WordsFault → Result Y Problem → Type 0
Means view result meant = UnlessOutOfMemory (λ x. Ok (view x)) refused result meant
