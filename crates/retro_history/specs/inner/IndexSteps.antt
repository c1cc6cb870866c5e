-- What an index holds, and how it grows note by note.
use Rattle.std.specs.Prelude.{◌≡◌, ℕ, List, [], ◌∷◌, Option}
use Rattle.std.specs.Option.{unwrap_or}
use Rattle.std.specs.FinMap as map
use Rattle.retro_tree.specs.Maps.{update}
use Rattle.retro_tree.specs.Path.{PathValue, parent_of}
use Rattle.retro_tree.specs.Order.{path_cmp}
use Rattle.retro_tree.specs.declared.ask.Ask.TheVariants as asks
use Rattle.retro_tree.specs.declared.cell.Cell.{Cell}
use Rattle.retro_tree.specs.declared.cell.Cell.TheVariants as cells
use Rattle.retro_tree.specs.declared.note.Note.{Note}
use Rattle.retro_tree.specs.declared.note.Note.TheVariants.{Asked}
use Rattle.retro_history.specs.Index.{Line, AreNumbered, meets, numbers_of, written_at, listed_at}
use Rattle.retro_history.specs.inner.Numbers.{first_above, with_number}
use Rattle.retro_history.specs.inner.CellHistory.{uses_at}
use Rattle.retro_history.specs.inner.LineUse.{reads_directly}
use Rattle.retro_history.specs.declared.index.Index.{Index}

-- a map from directories to the lines that list them
abbrev pub ListedMap : Type 0
ListedMap = map.FinMap path_cmp (List ℕ)

-- the lines that list a directory, none if the path is missing
abbrev pub numbers_at : ListedMap → PathValue → List ℕ
numbers_at m p = unwrap_or (map.get m p) []

-- a map with a line appended at a path, if the path's other lines are below it
abbrev pub with_line : PathValue → ℕ → ListedMap → ListedMap
with_line p n m = update m p [] (with_number n)

-- a map with the lines that list directories, after the notes of line n, and after lines
abbrev pub listed_noted : ℕ → List Note → ListedMap → ListedMap
listed_noted n [] m = m
listed_noted n (Asked (asks.Names p) r ∷ notes) m = listed_noted n notes (with_line p n m)
listed_noted n (note ∷ notes) m = listed_noted n notes m

abbrev pub listed_by : List Line → ListedMap → ListedMap
listed_by [] m = m
listed_by (l ∷ lines) m = listed_by lines (listed_noted l.0 l.1.notes m)

-- An index is that of lines if it has for each cell the lines that write it and those that read it
-- directly, and for each directory the lines that list it. A line that reads a cell only by listing
-- its parent doesn't read it directly.
pub record Indexes (index : Index) (lines : List Line) : Type 0 where
  pub numbered : AreNumbered lines
  pub written : (c : Cell) → (uses_at index.cells c).written ≡ written_at c lines
  pub read : (c : Cell) → (uses_at index.cells c).read ≡ numbers_of (λ l. reads_directly l.1.notes c) lines
  pub listed : (p : PathValue) → numbers_at index.listed p ≡ listed_at p lines

-- the index of no lines
abbrev pub no_lines : Index
no_lines = record { cells = map.empty; listed = map.empty }

-- ---- look-ups

-- the lines that list the parent of a cell's path
abbrev pub parent_listings : Cell → ListedMap → List ℕ
parent_listings (cells.At p) listed = numbers_at listed (parent_of p)
parent_listings _ listed = []

-- the first line above a number that reads or writes one of some cells
abbrev pub next_of : ℕ → List Cell → List Line → Option ℕ
next_of after cells lines = first_above after (numbers_of (meets cells) lines)
