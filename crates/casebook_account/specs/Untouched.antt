-- What no line touches.
use Rattle.std.specs.Prelude.{◌≡◌, ℕ, Bool, true, List}
use Rattle.std.specs.List.{list_any}
use Rattle.retro_tree.specs.Cell.{value}
use Rattle.retro_tree.specs.Notes.{touches}
use Rattle.retro_tree.specs.declared.cell.Cell.{Cell}
use Rattle.retro_tree.specs.declared.state.State.{State}
use Rattle.retro_keep.specs.declared.noted.Noted.{Noted}

-- whether one of some lines touches a cell: one of its notes, needs included, asks about it or
-- changes it
abbrev pub is_touched : List (ℕ × Noted) → Cell → Bool
is_touched lines c = list_any (λ l. touches l.1.notes c) lines

-- two states have the same in each cell that a line touches, and anything elsewhere
abbrev pub AgreeOnTouched : List (ℕ × Noted) → State → State → Type 0
AgreeOnTouched lines s t = (c : Cell) → is_touched lines c ≡ true → value c s ≡ value c t
