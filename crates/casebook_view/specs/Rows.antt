-- Rows of a recording.
use Rattle.std.specs.Prelude.{ℕ, Bool, true, false, List, Option, Some, map}
use Rattle.std.specs.List.{filter, filter_map}
use Rattle.retro_tree.specs.Order.{path_eq}
use Rattle.retro_tree.specs.Path.{PathValue}
use Rattle.retro_keep.specs.Recording.{RecordingValue}
use Rattle.retro_keep.specs.declared.noted.Noted.{Noted}
use Rattle.casebook_usage.specs.declared.obstacle.Obstacle.{Obstacle}
use Rattle.casebook_usage.specs.declared.obstacle.Obstacle.TheVariants.{Observed}
use Rattle.casebook_profile.specs.UnknownLines.{unknown_lines_of}
use Rattle.casebook_profile.specs.declared.unknown_line.UnknownLine.{UnknownLine}
use Rattle.casebook_view.specs.Filters.{FiltersValue, passes}
use Rattle.casebook_view.specs.FirstOfEach.{first_of_each}
use Rattle.casebook_view.specs.NotePaths.{read_path, write_eq, write_in}
use Rattle.casebook_view.specs.Sources.{SourceValue, Played, Seen}
use Rattle.casebook_view.specs.Unknown.{obstacle_at, unknown_line}
use Rattle.casebook_view.specs.declared.line_row.LineRow.{LineRow}
use Rattle.casebook_view.specs.declared.path_write.PathWrite.{PathWrite}

-- what a row says
pub record RowValue : Type 0 where
  pub number : ℕ
  pub session : ℕ
  pub text : List ℕ
  pub read : List PathValue
  pub wrote : List PathWrite
  pub obstacle : Option Obstacle
  pub output : List ℕ

abbrev pub row_value : LineRow → RowValue
row_value row = record {
  number = row.number;
  session = row.session;
  text = row.text.now;
  read = row.read.items;
  wrote = row.wrote.items;
  obstacle = row.obstacle;
  output = row.output.now;
}

abbrev pub is_observed : Option Obstacle → Bool
is_observed (Some Observed) = true
is_observed _ = false

-- the row of a line with an obstacle
abbrev pub row_with : Option Obstacle → ℕ × Noted → RowValue
row_with obstacle line = record {
  number = line.0;
  session = line.1.sid;
  text = line.1.text;
  read = first_of_each path_eq (filter_map (read_path (is_observed obstacle)) line.1.notes);
  wrote = first_of_each write_eq (filter_map write_in line.1.notes);
  obstacle = obstacle;
  output = line.1.output;
}

-- the row of a line, given the lines that aren't understood
abbrev pub row_of : List UnknownLine → ℕ × Noted → RowValue
row_of unknown line = row_with (obstacle_at line.0 unknown) line

-- the rows of lines that pass filters, given the lines that aren't understood
abbrev pub rows_among : FiltersValue → List UnknownLine → List (ℕ × Noted) → List RowValue
rows_among filters unknown lines = map (row_of unknown) (filter (passes filters unknown) lines)

-- the lines with these numbers, as lines that stand as they were observed
abbrev pub observed_lines : List ℕ → List UnknownLine
observed_lines numbers = map (λ n. unknown_line n Observed) numbers

-- The lines of a recording that aren't understood, if they were played; those that stand as they
-- were observed, if a recorder saw them.
abbrev pub unknown_of : SourceValue → RecordingValue → List UnknownLine
unknown_of Played r = unknown_lines_of r
unknown_of (Seen seen) r = observed_lines seen.observed

-- the rows of the lines of a recording from a source that pass filters
abbrev pub rows_of : SourceValue → FiltersValue → RecordingValue → List RowValue
rows_of source filters r = rows_among filters (unknown_of source r) r.lines
