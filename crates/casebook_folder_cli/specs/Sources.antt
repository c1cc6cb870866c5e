-- What snapshots are taken of, and what one of them is.
use Rattle.std.specs.Prelude.{◌≡◌, Bool, true, false, ℕ, List, Option, Some, None, Result, Ok, Err}
use Rattle.clap.specs.Words.{Text}
use Rattle.retro_path.specs.Path.{PathValue}
use Rattle.casebook_snapshot.specs.declared.snapshot.Snapshot.{Snapshot}
use Rattle.casebook_tar.specs.Archive.{members_of}
use Rattle.casebook_tar.specs.Members.{Entry}
use Rattle.casebook_tar_tree.specs.Faults.{fault_of}
use Rattle.casebook_tar_tree.specs.Trees.{tree_of}
use Rattle.casebook_folder_cli.specs.Folders.{AllFolders, IsSnapshotAt}
use Rattle.casebook_folder_cli.specs.declared.request.FolderProblem.{FolderProblem}
use Rattle.casebook_folder_cli.specs.declared.request.FolderProblem.TheVariants as problems
use Rattle.casebook_folder_cli.specs.declared.source.Mounts.{Mounts}
use Rattle.casebook_folder_cli.specs.declared.source.Mounts.TheVariants as mounts

-- by their names: a folder, without or with the other file systems in it, or the stream of tar in a
-- file
pub data SourceValue : Type 0 where
  folder : Text → Mounts → SourceValue
  archive : Text → SourceValue

abbrev pub source_name : SourceValue → Text
source_name (folder name m) = name
source_name (archive name) = name

abbrev pub mounts_of : Bool → Mounts
mounts_of true = mounts.Entered
mounts_of false = mounts.Skipped

-- the source that is given: a folder or a stream of tar, but not both, and other file systems only
-- with a folder
abbrev pub source_of : Option Text → Option Text → Bool → Result SourceValue FolderProblem
source_of None None is_entered = Err problems.NoFolder
source_of (Some name) (Some file) is_entered = Err problems.SeveralSources
source_of (Some name) None is_entered = Ok (folder name (mounts_of is_entered))
source_of None (Some file) true = Err problems.MountsOfFile
source_of None (Some file) false = Ok (archive file)

-- A snapshot of the tree of the members of a stream, which is put at a path, without the paths to
-- skip.
pub record IsArchived (stream : List ℕ) (at : PathValue) (skip : List PathValue) (s : Snapshot) : Type 0 where
  pub members : List Entry
  pub are_members : members_of stream ≡ Ok members
  pub are_lawful : fault_of members ≡ None
  pub is_snapshot : IsSnapshotAt (tree_of stream members) at skip s

-- a snapshot of a source, which is put at a path, without the paths to skip
abbrev pub IsTaken : AllFolders → SourceValue → PathValue → List PathValue → Snapshot → Type 0
IsTaken folders (folder name m) at skip s = IsSnapshotAt (folders.listed name m) at skip s
IsTaken folders (archive name) at skip s = IsArchived (folders.files name) at skip s
