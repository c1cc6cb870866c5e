-- Folders with names, undo files, and snapshots.
use Rattle.std.specs.Prelude.{ℕ, List, Option}
use Rattle.retro_path.specs.Path.{PathValue}
use Rattle.casebook_folder.specs.Steps as steps
use Rattle.casebook_snapshot.specs.Items.{Contents}
use Rattle.casebook_snapshot.specs.Placed.{placed}
use Rattle.casebook_snapshot.specs.Snapshots.{IsSnapshot}
use Rattle.casebook_snapshot.specs.declared.snapshot.Snapshot.{Snapshot}
use Rattle.casebook_folder_cli.specs.declared.source.Mounts.{Mounts}

-- by their names: what is in folders that are listed, without or with what is mounted in them, what
-- is in those that are opened at a path to be changed, the bytes of files, and those of undo files
pub record AllFolders : Type 0 where
  pub listed : List ℕ → Mounts → Contents
  pub files : List ℕ → List ℕ
  pub opened : List ℕ → PathValue → steps.Contents
  pub undo_files : List ℕ → Option (List ℕ)

-- a snapshot of what a folder holds, which is put at a path, without the paths to skip
abbrev pub IsSnapshotAt : Contents → PathValue → List PathValue → Snapshot → Type 0
IsSnapshotAt f at skip s = IsSnapshot (placed at f) skip s
