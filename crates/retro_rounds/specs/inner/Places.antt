-- Where a repair is among its pieces, and how that changes from line to line.
use Rattle.std.specs.Prelude.{ℕ, zero, suc, ◌-◌, List}
use Rattle.retro_rounds.specs.Pieces.{first_cut, later_cuts}

-- how many lines of the current piece are left, and the numbers of lines of the pieces after it
pub record Place : Type 0 where
  pub left : ℕ
  pub cuts : List ℕ

-- the place after the next line
abbrev pub after_line : ℕ → List ℕ → Place
after_line zero cuts = record { left = first_cut cuts - 1; cuts = later_cuts cuts }
after_line (suc left) cuts = record { left = left; cuts = cuts }

-- the place after some lines
abbrev pub after_lines : ℕ → Place → Place
after_lines zero place = place
after_lines (suc n) place = after_lines n (after_line place.left place.cuts)
