-- What reading an input gives.
use Rattle.std.specs.Prelude.{ℕ, ◌==◌, ◌≡◌, ◌≤◌, ◌<◌, List, length, take, Bool, true, false, ◌||◌, Option}
use Rattle.std.specs.Io.KnownBytes.{Consumes, IsAtEnd}
use Rattle.retro_cli.specs.declared.input.TheConstants.{MOST_READS}
use Rattle.retro_cli.specs.declared.stop.Stop.{Stop}
use Rattle.retro_cli.specs.declared.stop.Stop.TheVariants as stops

-- whether a call failed, or the greatest number of calls was made
abbrev pub is_broken : ℕ → Bool → Bool
is_broken reads has_failed = has_failed || reads == MOST_READS

-- a call took n bytes from the start of what the reader had left, and n is 0 only at the end
pub record GivesPiece (old new : Option (List ℕ)) (n : ℕ) (piece : List ℕ) : Type 0 where
  pub bound : n ≤ length piece
  pub bytes : Consumes old new (take n piece)
  pub end : n ≡ 0 → 0 < length piece → IsAtEnd new

-- what can stop the reading of an input
abbrev pub is_read_stop : Stop → Bool
is_read_stop stops.NoMem = true
is_read_stop (stops.Refused number) = false
is_read_stop stops.ReadFailed = true
is_read_stop stops.WriteFailed = false
