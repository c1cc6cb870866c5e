-- The values of the code as the definitions have them.
use Rattle.std.specs.Prelude.{Option, Some, None, Result, Ok, Err, option_map}
use Rattle.retro_path.specs.OutOfMemory.{UnlessOutOfMemory}
use Rattle.casebook_folder_cli.specs.RestoreWords.{RestoreValue, UndoValue}
use Rattle.casebook_folder_cli.specs.Restoring.{RepairedValue}
use Rattle.casebook_folder_cli.specs.ScriptWords.{ScriptValue}
use Rattle.casebook_folder_cli.specs.Sources.{SourceValue, archive, folder}
use Rattle.casebook_folder_cli.specs.Words.{ComparedValue, SnapshotValue, taken, written}
use Rattle.casebook_folder_cli.specs.declared.request.ComparedSnapshot.{ComparedSnapshot}
use Rattle.casebook_folder_cli.specs.declared.request.ComparedSnapshot.TheVariants as compareds
use Rattle.casebook_folder_cli.specs.declared.request.FolderFault.{FolderFault}
use Rattle.casebook_folder_cli.specs.declared.request.FolderFault.TheVariants as faults
use Rattle.casebook_folder_cli.specs.declared.request.FolderProblem.{FolderProblem}
use Rattle.casebook_folder_cli.specs.declared.request.SnapshotRequest.{SnapshotRequest}
use Rattle.casebook_folder_cli.specs.declared.restore_requests.RestoreRequest.{RestoreRequest}
use Rattle.casebook_folder_cli.specs.declared.restore_requests.UndoRequest.{UndoRequest}
use Rattle.casebook_folder_cli.specs.declared.restoring.RepairedTree.{RepairedTree}
use Rattle.casebook_folder_cli.specs.declared.script_names.ScriptRequest.{ScriptRequest}
use Rattle.casebook_folder_cli.specs.declared.source.Source.{Source}
use Rattle.casebook_folder_cli.specs.declared.source.Source.TheVariants as sources

abbrev pub source_view : Source → SourceValue
source_view (sources.Folder name m) = folder name.now m
source_view (sources.Archive name) = archive name.now

abbrev pub request_view : SnapshotRequest → SnapshotValue
request_view request = record {
  source = source_view request.source;
  at = request.at;
  skip = request.skip.items;
}

abbrev pub compared_view : ComparedSnapshot → ComparedValue
compared_view (compareds.Taken request) = taken (request_view request)
compared_view (compareds.Document name) = written name.now

abbrev pub restore_view : RestoreRequest → RestoreValue
restore_view request = record {
  root = request.root.now;
  at = request.at;
  only = request.only.items;
  undo = option_map (λ s. s.now) request.undo;
}

abbrev pub tree_view : RepairedTree → RepairedValue
tree_view tree = record {
  recorded = tree.recorded.now;
  repaired = tree.repaired.now;
  known = tree.known;
}

abbrev pub undo_view : UndoRequest → UndoValue
undo_view request = record { root = request.root.now; undo = request.undo.now; apply = request.apply }

abbrev pub script_view : ScriptRequest → ScriptValue
script_view request = record {
  document = request.document.now;
  sessions = request.sessions.now;
  lines = request.lines.now;
}

-- what a fault says of the words: what is wrong with them, or None if memory ran out
abbrev pub refused : {Y : Type 0} → FolderFault → Option (Result Y FolderProblem)
refused faults.NoMem = None
refused (faults.Bad problem) = Some (Err problem)

-- the result is as defined, unless memory ran out
abbrev pub Means : {X Y : Type 0} → (X → Y) → Result X FolderFault → Result Y FolderProblem → Type 0
Means view result meant = UnlessOutOfMemory (λ x. Ok (view x)) refused result meant
