-- Snapshots that are taken or read, and why there is none.
use Rattle.std.specs.Prelude.{◌≡◌, ℕ, List, Some, Ok, Err}
use Rattle.retro_path.specs.Path.{PathValue}
use Rattle.casebook_snapshot.specs.declared.error.SnapshotError.{SnapshotError}
use Rattle.casebook_snapshot.specs.declared.error.SnapshotError.TheVariants as listings
use Rattle.casebook_snapshot.specs.declared.snapshot.Snapshot.{Snapshot}
use Rattle.casebook_snapshot_read.specs.Documents.{DocumentView, document_in, snapshot_view}
use Rattle.casebook_snapshot_read.specs.declared.fault.SnapshotFault.{SnapshotFault}
use Rattle.casebook_snapshot_read.specs.declared.fault.SnapshotFault.TheVariants as documents
use Rattle.casebook_tar.specs.Archive.{members_of}
use Rattle.casebook_tar.specs.Members.{Entry}
use Rattle.casebook_tar.specs.declared.tar_error.TarError.{TarError}
use Rattle.casebook_tar.specs.declared.tar_error.TarError.TheVariants as streams
use Rattle.casebook_tar_tree.specs.Faults.{fault_of}
use Rattle.casebook_tar_tree.specs.declared.tar_tree_error.TarTreeError.{TarTreeError}
use Rattle.casebook_tar_tree.specs.declared.tar_tree_error.TarTreeError.TheVariants as trees
use Rattle.casebook_tar_tree.specs.declared.tar_tree_error.TarTreeFault.{TarTreeFault}
use Rattle.casebook_folder_cli.specs.Folders.{AllFolders}
use Rattle.casebook_folder_cli.specs.Sources.{IsTaken, SourceValue, archive, folder}
use Rattle.casebook_folder_cli.specs.Words.{ComparedValue, taken, written}
use Rattle.casebook_folder_cli.specs.declared.file_fault.FileFault.{FileFault}
use Rattle.casebook_folder_cli.specs.declared.file_fault.FileFault.TheVariants.{Document, Stream, Tree}
use Rattle.casebook_folder_cli.specs.declared.source_fault.SourceFault.{SourceFault}
use Rattle.casebook_folder_cli.specs.declared.source_fault.SourceFault.TheVariants as faults

-- ---- faults

abbrev pub fault_of_listing : SnapshotError → SourceFault
fault_of_listing listings.NoMem = faults.NoMem
fault_of_listing listings.Failed = faults.Unreadable
fault_of_listing listings.NotADirectory = faults.NotADirectory

abbrev pub fault_of_stream : TarError → SourceFault
fault_of_stream streams.NoMem = faults.NoMem
fault_of_stream (streams.Fault fault) = faults.BadFile (Stream fault)

abbrev pub fault_of_tree : TarTreeError → SourceFault
fault_of_tree trees.NoMem = faults.NoMem
fault_of_tree (trees.Fault fault) = faults.BadFile (Tree fault)

abbrev pub fault_of_document : SnapshotFault → SourceFault
fault_of_document documents.NoMem = faults.NoMem
fault_of_document fault = faults.BadFile (Document fault)

-- the members of a stream have this fault
pub record HasFault (stream : List ℕ) (fault : TarTreeFault) : Type 0 where
  pub members : List Entry
  pub are_members : members_of stream ≡ Ok members
  pub is_fault : fault_of members ≡ Some fault

-- the bytes of a file are no stream of tar, or the members of one that has a fault
abbrev pub IsBadStream : List ℕ → FileFault → Type 0
IsBadStream bytes (Stream fault) = members_of bytes ≡ Err fault
IsBadStream bytes (Tree fault) = HasFault bytes fault
IsBadStream bytes other = ⊥

-- the bytes of a file are no document of a snapshot
abbrev pub IsBadDocument : List ℕ → FileFault → Type 0
IsBadDocument bytes (Document fault) = document_in bytes ≡ Err fault
IsBadDocument bytes other = ⊥

-- what is wrong with a file
abbrev pub IsWrong : (FileFault → Type 0) → SourceFault → Type 0
IsWrong bad (faults.BadFile fault) = bad fault
IsWrong bad other = Unit {0}

-- there is no snapshot of a source: if a file is blamed, it has this fault
abbrev pub IsNotTaken : AllFolders → SourceValue → SourceFault → Type 0
IsNotTaken folders (folder name m) fault = IsWrong (λ bad. ⊥) fault
IsNotTaken folders (archive name) fault = IsWrong (IsBadStream (folders.files name)) fault

-- ---- the snapshot with which a recording is compared

-- the snapshot that is in a document, and the path of its folder
pub record IsRead (bytes : List ℕ) (s : Snapshot) (at : PathValue) : Type 0 where
  pub read : DocumentView
  pub is_document : document_in bytes ≡ Ok read
  pub is_snapshot : snapshot_view s ≡ read.snapshot
  pub is_place : at ≡ read.at

-- the snapshot, and the path at which it is put
abbrev pub IsCompared : AllFolders → ComparedValue → Snapshot → PathValue → Type 0
IsCompared folders (taken request) s at =
    IsTaken folders request.source request.at request.skip s × (at ≡ request.at)
IsCompared folders (written name) s at = IsRead (folders.files name) s at

abbrev pub IsNotCompared : AllFolders → ComparedValue → SourceFault → Type 0
IsNotCompared folders (taken request) fault = IsNotTaken folders request.source fault
IsNotCompared folders (written name) fault = IsWrong (IsBadDocument (folders.files name)) fault
