-- Which lines get a job, by what a repair lends for guesses.
use Rattle.std.specs.Prelude.{◌≡◌, ℕ, Some}
use Rattle.retro_keep.specs.Recording.{noted_at}
use Rattle.retro_keep.specs.declared.noted.Noted.{Noted}
use Rattle.retro_redo.specs.Ground.{GroundValue, edit_lent, shown_at}
use Rattle.retro_redo.specs.Moments.{IsStaleBy}

-- the line with a number is stale in the combined state before it
abbrev pub IsWanted : GroundValue → ℕ → Type 0
IsWanted g n =
    (noted : Noted) × (noted_at n g.recording.lines ≡ Some noted)
    × IsStaleBy (edit_lent g n) noted.notes (shown_at n g)
