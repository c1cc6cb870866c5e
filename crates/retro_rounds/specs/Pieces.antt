-- The pieces into which a list of numbers cuts the lines of a recording.
use Rattle.std.specs.Prelude.{ℕ, zero, suc, ◌-◌, List, [], ◌∷◌}
use Rattle.retro_tree.specs.declared.state.State.{State}
use Rattle.retro_redo.specs.Moments.{Moment}

-- The number of lines of the next piece, and the numbers for the pieces after it. The last number
-- is that of all further pieces.
abbrev pub first_cut : List ℕ → ℕ
first_cut [] = zero
first_cut (n ∷ cuts) = n

abbrev pub later_cuts : List ℕ → List ℕ
later_cuts [] = []
later_cuts (n ∷ []) = n ∷ []
later_cuts (n ∷ (k ∷ cuts)) = k ∷ cuts

-- the states of the two runs before the first line of a piece
pub record Start : Type 0 where
  pub recorded : State
  pub repaired : State

abbrev pub start_at : Moment → Start
start_at m = record { recorded = m.recorded; repaired = m.repaired }

-- a line, and the start of its piece
pub record InPiece : Type 0 where
  pub start : Start
  pub here : Moment

-- Each line with the start of its piece. The first `left` lines belong to the piece that began at
-- `start`, and the line after them begins a piece.
abbrev pub from_within : ℕ → Start → List ℕ → List Moment → List InPiece
from_within left start cuts [] = []
from_within zero start cuts (m ∷ ms) =
    record { start = start_at m; here = m } ∷ from_within (first_cut cuts - 1) (start_at m) (later_cuts cuts) ms
from_within (suc left) start cuts (m ∷ ms) =
    record { start = start; here = m } ∷ from_within left start cuts ms

-- each line with the start of its piece, if the first line begins a piece
abbrev pub in_pieces : List ℕ → List Moment → List InPiece
in_pieces cuts [] = []
in_pieces cuts (m ∷ ms) = from_within zero (start_at m) cuts (m ∷ ms)
