-- Answers to requests for snapshots.
use Rattle.std.specs.Prelude.{◌≡◌, ℕ, ℤ, List}
use Rattle.casebook_about.specs.Time.{IsInstantText}
use Rattle.casebook_snapshot.specs.declared.snapshot.Snapshot.{Snapshot}
use Rattle.casebook_snapshot_json.specs.Documents.{snapshot_text}
use Rattle.casebook_folder_cli.specs.Folders.{AllFolders}
use Rattle.casebook_folder_cli.specs.Remarks.{snapshot_words}
use Rattle.casebook_folder_cli.specs.Sources.{IsTaken, source_name}
use Rattle.casebook_folder_cli.specs.Words.{SnapshotValue}
use Rattle.casebook_folder_cli.specs.declared.answer.SnapshotAnswer.{SnapshotAnswer}

-- a text is an instant: that of some second
abbrev pub IsInstant : List ℕ → Type 0
IsInstant text = (second : ℤ) × IsInstantText second text

-- A text is the document of a snapshot of the source that is asked for, with its name and some
-- time.
pub record IsSnapshotOf (folders : AllFolders) (request : SnapshotValue) (s : Snapshot) (text : List ℕ)
    : Type 0 where
  pub is_snapshot : IsTaken folders request.source request.at request.skip s
  pub taken : List ℕ
  pub is_time : IsInstant taken
  pub document : text ≡ snapshot_text s request.at (source_name request.source) taken

-- The answer has the document of a snapshot, and counts what is in it.
pub record IsSnapshotAnswer (folders : AllFolders) (request : SnapshotValue) (answer : SnapshotAnswer) : Type 0 where
  pub snapshot : Snapshot
  pub document : IsSnapshotOf folders request snapshot answer.document.items
  pub remark : answer.remark ≡ snapshot_words snapshot
