-- Answers to requests for comparisons.
use Rattle.std.specs.Prelude.{◌≡◌}
use Rattle.retro_keep.specs.Recording.{RecordingValue, last_state}
use Rattle.retro_path.specs.Path.{PathValue}
use Rattle.casebook_compare.specs.Comparison.{IsComparison, has_differences}
use Rattle.casebook_compare.specs.Words.{comparison_lines}
use Rattle.casebook_compare.specs.declared.comparison.Comparison.{Comparison}
use Rattle.casebook_snapshot.specs.declared.snapshot.Snapshot.{Snapshot}
use Rattle.casebook_folder_cli.specs.Folders.{AllFolders}
use Rattle.casebook_folder_cli.specs.Remarks.{snapshot_words}
use Rattle.casebook_folder_cli.specs.Taking.{IsCompared}
use Rattle.casebook_folder_cli.specs.Words.{ComparedValue}
use Rattle.casebook_folder_cli.specs.declared.comparing.CompareAnswer.{CompareAnswer}

-- The answer says what a comparison finds of the recording's last tree and of the snapshot that is
-- taken or read, and counts what is in the snapshot.
pub record IsCompareAnswer (folders : AllFolders) (request : ComparedValue) (r : RecordingValue)
    (answer : CompareAnswer) : Type 0 where
  pub snapshot : Snapshot
  pub at : PathValue
  pub is_snapshot : IsCompared folders request snapshot at
  pub comparison : Comparison
  pub is_comparison : IsComparison (last_state r.lines r.first).tree snapshot at comparison
  pub lines : answer.lines.items ≡ comparison_lines r comparison
  pub is_no : answer.is_no ≡ has_differences comparison
  pub remark : answer.remark ≡ snapshot_words snapshot
