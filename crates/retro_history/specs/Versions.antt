-- The versions of a cell, by the lines of a recording. The first version, with number 0, is the
-- cell's first value. Each line that changes the cell makes a version with the line's number: a
-- growth if the line's changes of the cell are all growths, or else a whole value. After sixteen
-- growths in a row the next version is whole. The whole versions are the checkpoints.
use Rattle.std.specs.Prelude.{ℕ, ◌+◌, nat_lt, Bool, true, false, ◌&&◌, if◌then◌else◌, List, [], ◌∷◌, ◌++◌, map, max}
use Rattle.std.specs.Prelude.{Option, Some, None, option_map, unwrap_or, is_some}
use Rattle.std.specs.List.{filter}
use Rattle.retro_tree.specs.Cell.{value}
use Rattle.retro_tree.specs.Change.{cell_of, value_grown}
use Rattle.retro_tree.specs.Notes.{cell_eq, changes, effects}
use Rattle.retro_tree.specs.declared.cell.Cell.{Cell}
use Rattle.retro_tree.specs.declared.value.Value.{Value}
use Rattle.retro_tree.specs.declared.change.Change.{Change}
use Rattle.retro_tree.specs.declared.change.Change.TheVariants.{Put, Grow, SetVar, SetCwd, SetStatus}
use Rattle.retro_tree.specs.declared.note.Note.{Note}
use Rattle.retro_tree.specs.declared.note.Note.TheVariants.{Asked, Made}
use Rattle.retro_keep.specs.Recording.{RecordingValue}
use Rattle.retro_keep.specs.declared.noted.Noted.{Noted}
use Rattle.retro_history.specs.declared.rolled.Rolled.{Rolled}

-- what a version has: a value, or the bytes by which the version before it grows
pub data Content : Type 0 where
  whole : Value → Content
  growth : List ℕ → Content

-- a line's number, and the version that the line makes
abbrev pub Version : Type 0
Version = ℕ × Content

-- the longest run of growths; the version after it is a whole value
abbrev pub growth_limit : ℕ
growth_limit = 16

-- the bytes of a growth followed by other bytes, or None if the change isn't a growth
abbrev pub with_growth : Change → Option (List ℕ) → Option (List ℕ)
with_growth (Grow p bytes) more = option_map (λ rest. bytes ++ rest) more
with_growth (Put p node) more = None
with_growth (SetVar sid name text) more = None
with_growth (SetCwd sid p) more = None
with_growth (SetStatus sid status) more = None

-- the bytes by which notes grow a cell, or None if they change it in another way too
abbrev pub growth_in : List Note → Cell → Option (List ℕ)
growth_in [] c = Some []
growth_in (Asked a r ∷ notes) c = growth_in notes c
growth_in (Made change ∷ notes) c =
    let rest = growth_in notes c in if cell_eq (cell_of change) c then with_growth change rest else rest

-- whether notes that change a cell make a growth of it, after so many growths in a row
abbrev pub is_growth : ℕ → List Note → Cell → Bool
is_growth growths notes c = is_some (growth_in notes c) && nat_lt growths growth_limit

-- the number of growths in a row after notes
abbrev pub growths_after : ℕ → List Note → Cell → ℕ
growths_after growths notes c =
    if changes notes c then (if is_growth growths notes c then growths + 1 else 0) else growths

-- what notes make of a value: a growth after so many growths in a row, or a whole value
abbrev pub content_by : ℕ → Value → List Note → Cell → Content
content_by growths v notes c =
    if is_growth growths notes c then growth (unwrap_or (growth_in notes c) [])
    else whole (effects notes c v)

-- the version that a line makes of a cell, if it changes it
abbrev pub version_by : ℕ → Value → ℕ × Noted → Cell → List Version
version_by growths v l c =
    if changes l.1.notes c then (l.0, content_by growths v l.1.notes c) ∷ [] else []

-- the versions that lines make of a cell, from a value on that follows so many growths in a row
abbrev pub versions_by : ℕ → Value → List (ℕ × Noted) → Cell → List Version
versions_by growths v [] c = []
versions_by growths v (l ∷ lines) c =
    version_by growths v l c
    ++ versions_by (growths_after growths l.1.notes c) (effects l.1.notes c v) lines c

-- all versions of a cell, in order
unfoldable pub versions : Cell → RecordingValue → List Version
versions c r = (0, whole (value c r.first)) ∷ versions_by 0 (value c r.first) r.lines c

-- ---- checkpoints, and rolling back to them

abbrev pub is_checkpoint : Version → Bool
is_checkpoint (number, whole v) = true
is_checkpoint (number, growth bytes) = false

-- the numbers of the checkpoints of a cell
abbrev pub checkpoints : Cell → RecordingValue → List ℕ
checkpoints c r = map (λ v. v.0) (filter is_checkpoint (versions c r))

-- the greatest of some numbers that is below a number, or 0 if there is none
abbrev pub greatest_below : ℕ → List ℕ → ℕ
greatest_below number [] = 0
greatest_below number (n ∷ ns) = max (if nat_lt n number then n else 0) (greatest_below number ns)

-- the rollback after one more version: a whole value is a checkpoint to start from, and a growth
-- appends to the value
abbrev pub rolled_on : Version → Rolled → Rolled
rolled_on (number, whole v) rolled = record { from = number; value = v }
rolled_on (number, growth bytes) rolled =
    record { from = rolled.from; value = value_grown bytes rolled.value }

-- the last checkpoint below a number, with the growths after it that are below the number
abbrev pub roll : ℕ → Rolled → List Version → Rolled
roll number rolled [] = rolled
roll number rolled (v ∷ vs) = roll number (if nat_lt v.0 number then rolled_on v rolled else rolled) vs

-- a cell rolled back to a number; to number 0, the cell's first value
abbrev pub rolled_back : Cell → ℕ → RecordingValue → Rolled
rolled_back c number r = roll number (record { from = 0; value = value c r.first }) (versions c r)
