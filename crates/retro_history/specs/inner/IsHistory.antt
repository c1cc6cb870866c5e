-- The invariant of histories.
use Rattle.std.specs.Prelude.{◌≡◌}
use Rattle.retro_tree.specs.Cell.{value}
use Rattle.retro_tree.specs.declared.cell.Cell.{Cell}
use Rattle.retro_keep.specs.Recording.{IsWellFormed, RecordingValue}
use Rattle.retro_history.specs.inner.CellHistory.{HistoryMap, track_in}
use Rattle.retro_history.specs.inner.IndexSteps.{Indexes}
use Rattle.retro_history.specs.inner.Tracks.{new_track, tracked}
use Rattle.retro_history.specs.declared.index.Index.{Index}

-- each cell has the versions that the lines of a recording make
unfoldable pub IsTracked : RecordingValue → HistoryMap → Type 0
IsTracked r m = (c : Cell) → track_in c r.first m ≡ tracked c r.lines (new_track (value c r.first))

-- the histories of a recording's cells, and the index of its lines
pub record IsHistory (r : RecordingValue) (index : Index) : Type 0 where
  pub well_formed : IsWellFormed r
  pub tracked : IsTracked r index.cells
  pub indexed : Indexes index r.lines
