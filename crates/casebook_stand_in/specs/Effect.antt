-- What a line was seen to leave behind in the watched folders and in its session.
use Rattle.std.specs.Prelude.{◌≡◌, ℕ, ◌==◌, Bool, true, if◌then◌else◌, Option, Some}
use Rattle.std.specs.FinMap as map
use Rattle.retro_tree.specs.Overlay.{OverlayMap, Fits, AllValues}
use Rattle.retro_tree.specs.Commit.{committed}
use Rattle.retro_tree.specs.declared.cell.Cell.{Cell}
use Rattle.retro_tree.specs.declared.cell.Cell.TheVariants as cells
use Rattle.retro_tree.specs.declared.value.Value.{Value}
use Rattle.retro_tree.specs.declared.value.Value.TheVariants as values
use Rattle.retro_tree.specs.declared.overlay_entry.OverlayEntry.{OverlayEntry}
use Rattle.retro_tree.specs.declared.overlay_entry.OverlayEntry.TheVariants as entries
use Rattle.retro_tree.specs.declared.state.State.{State}

-- the line's session, and the cells that were seen to change, each with the value that it has after
-- the line
pub record EffectValue : Type 0 where
  pub sid : ℕ
  pub cells : OverlayMap

-- whether a cell is the node at a path, or belongs to a session
abbrev pub is_own : ℕ → Cell → Bool
is_own sid (cells.At p) = true
is_own sid (cells.Cwd other) = other == sid
is_own sid (cells.Var other name) = other == sid
is_own sid (cells.Status other) = other == sid

-- each cell with an entry is the node at a path, or belongs to the session
unfoldable pub AreOwn : ℕ → OverlayMap → Type 0
AreOwn sid overlay =
    (c : Cell) (l : OverlayEntry) → map.get overlay c ≡ Some l → is_own sid c ≡ true

-- The guarantee of the type of effects: each entry is a value of its cell's kind, and the line's
-- session is the only one.
pub record IsEffect (effect : EffectValue) : Type 0 where
  pub fits : Fits effect.cells
  pub values : AllValues effect.cells
  pub own : AreOwn effect.sid effect.cells

-- an effect with the value of one more cell
abbrev pub with_cell : Cell → Value → EffectValue → EffectValue
with_cell c v effect =
    record effect { cells = map.insert effect.cells c (entries.Value v) }

-- the effect of a line that changes nothing but its session's status
abbrev pub status_alone : ℕ → ℕ → EffectValue
status_alone sid status =
    with_cell (cells.Status sid) (values.Status status) (record { sid = sid; cells = map.empty })

-- the state before the line with exactly these cells set
abbrev pub observed : EffectValue → State → State
observed effect s = committed effect.cells s

-- ---- what stands for a status

-- The status that stands for one that was observed. No form of the profile has a status other than
-- 0 and 1 and prints nothing.
abbrev pub stands_as : ℕ → ℕ
stands_as status = if status == 0 then 0 else 1

-- cells with the status of a session as it stands, if they have one
abbrev pub with_standing : ℕ → Option OverlayEntry → OverlayMap → OverlayMap
with_standing sid (Some (entries.Value (values.Status status))) overlay =
    map.insert overlay (cells.Status sid) (entries.Value (values.Status (stands_as status)))
with_standing sid _ overlay = overlay

-- the effect that stands for one that was observed: it has another status, if it has one
abbrev pub standing : EffectValue → EffectValue
standing effect =
    record effect {
      cells =
          with_standing effect.sid (map.get effect.cells (cells.Status effect.sid)) effect.cells;
    }
