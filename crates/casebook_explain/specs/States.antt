-- The states after each line: those of the machine, and those of the recording.
use Rattle.std.specs.Prelude.{◌≡◌, Bool, true, false, List, ◌∷◌}
use Rattle.retro_tree.specs.Cell.{value}
use Rattle.retro_tree.specs.declared.cell.Cell.{Cell}
use Rattle.retro_tree.specs.declared.cell.Cell.TheVariants as cells
use Rattle.retro_tree.specs.declared.state.State.{State}
use Rattle.casebook_stand_in.specs.Effect.{observed}
use Rattle.casebook_explain.specs.Places.{is_ours}
use Rattle.casebook_explain.specs.Told.{state_after}
use Rattle.casebook_explain.specs.declared.seen_line.SeenLine.{SeenLine}
use Rattle.casebook_explain.specs.declared.told.ToldLine.{ToldLine}

-- whether a cell is the node at /.casebook or below it
abbrev pub is_our_cell : Cell → Bool
is_our_cell (cells.At p) = is_ours p
is_our_cell _ = false

-- whether a cell is the status of a session
abbrev pub is_status : Cell → Bool
is_status (cells.Status sid) = true
is_status _ = false

-- A cell has the same value after each line: in the observed states, from `now` on, and in the told
-- ones, from `s` on.
abbrev pub SameAfterEach : Cell → List SeenLine → List ToldLine → State → State → Type 0
SameAfterEach c (line ∷ lines) (told ∷ rest) now s =
    (value c (observed line.effect now) ≡ value c (state_after line told s))
    × SameAfterEach c lines rest (observed line.effect now) (state_after line told s)
SameAfterEach c _ _ now s = Unit {0}
