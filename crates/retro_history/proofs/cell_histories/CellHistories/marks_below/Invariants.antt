use Rattle.std.proofs.Common.{◌≡◌, length}
use Rattle.std.specs.FinMap as map
use Rattle.retro_tree.specs.declared.cell.Cell.TheVariants as cells
use Rattle.retro_tree.proofs.Skips.{IsRest}
use Rattle.retro_history.specs.inner.CellHistory.{AllRise}
use Rattle.retro_history.specs.inner.TrackMarks.{mark_tracks, histories_from}
use Rattle.retro_history.proofs.cell_histories.CellHistories.marks_below.Given as goal

abbrev pub invariant-loop-cell : goal.invariant-loop-cell
invariant-loop-cell l = record {
  rest : IsRest (map.entries l.self) l.rest;
  marks : mark_tracks l.path l.number l.rest l.marks
      ≡ mark_tracks l.path l.number (histories_from (cells.At l.path) l.self) map.empty;
  rise : AllRise l.rest;
}

abbrev pub decreases-loop-cell : goal.decreases-loop-cell
decreases-loop-cell l = length l.rest
