-- Obstacles of the lines of a repair, as maps have them.
use Rattle.std.specs.Prelude.{◌≡◌, ℕ, None, if◌then◌else◌}
use Rattle.retro_keep.specs.Recording.{RecordingValue}
use Rattle.retro_redo.specs.declared.repair.Repair.{Repair}
use Rattle.casebook_view.specs.Obstacles.{AreObstacles, obstacle_of}
use Rattle.casebook_view.specs.Sources.{SourceValue}
use Rattle.casebook_view.specs.Unknown.{is_replaced, recorded_unknown, replaced_obstacle}
use Rattle.casebook_view.specs.declared.case_obstacles.CaseObstacles.{CaseObstacles}
use Rattle.casebook_view.specs.declared.obstacles.Obstacles.{Obstacles}

-- A map has the obstacles of the lines that run another text in the second recording.
abbrev pub AreReplaced : RecordingValue → RecordingValue → Obstacles → Type 0
AreReplaced r repaired obstacles =
    (n : ℕ) → (if is_replaced r repaired n then obstacle_of n obstacles else None) ≡ replaced_obstacle r repaired n

-- These are the obstacles of the lines of a recording from a source and its repair.
pub record AreOfLines (source : SourceValue) (r : RecordingValue) (repair : Repair) (obstacles : CaseObstacles)
    : Type 0 where
  pub recorded : AreObstacles (recorded_unknown source r repair) obstacles.recorded
  pub replaced : AreReplaced r repair.recording obstacles.replaced
