-- The lines that are run ahead of their turns. Which lines are met, redone and kept is said by the
-- definitions of a repair.
use Rattle.std.specs.Prelude.{◌≡◌, ◌≢◌, ℕ, Option}
use Rattle.retro_tree.specs.Cell.{value}
use Rattle.retro_tree.specs.declared.cell.Cell.{Cell}
use Rattle.retro_tree.specs.declared.state.State.{State}
use Rattle.retro_keep.specs.declared.edit.Edit.{Edit}
use Rattle.retro_redo.specs.Moments.{IsMet, IsVerdict, Moment}
use Rattle.retro_redo.specs.declared.verdict.Verdict.TheVariants.{Redone, Kept}
use Rattle.retro_rounds.specs.Pieces.{InPiece, Start}

-- `shown` is the recorded state before a line, with the repaired value in each cell in which the
-- two states at the start of the line's piece differ.
abbrev pub IsShown : Start → State → State → Type 0
IsShown start recorded shown =
    (c : Cell) → (value c start.recorded ≡ value c start.repaired → value c shown ≡ value c recorded)
    × (value c start.recorded ≢ value c start.repaired → value c shown ≡ value c start.repaired)

-- A line is met by the two states at the start of its piece, and it is redone in the shown state.
abbrev pub IsJobFrom : (ℕ → Option Edit) → Start → Moment → Type 0
IsJobFrom edit start m =
    IsMet edit (record m { recorded = start.recorded; repaired = start.repaired })
    × (shown : State) × IsShown start m.recorded shown × IsVerdict edit (record m { repaired = shown }) Redone

-- a line that is run ahead of its turn, when its piece begins
abbrev pub IsJob : (ℕ → Option Edit) → InPiece → Type 0
IsJob edit x = IsJobFrom edit x.start x.here

-- a line that is run ahead of its turn in vain: it is kept
abbrev pub IsUnused : (ℕ → Option Edit) → InPiece → Type 0
IsUnused edit x = IsJob edit x × IsVerdict edit x.here Kept
