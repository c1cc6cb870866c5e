-- What writing to an output leaves.
use Rattle.std.specs.Prelude.{ℕ, ◌<◌, ◌≤◌, List, length, take, Option}
use Rattle.std.specs.Io.KnownBytes.{Appends}

-- a call took n bytes from the start of a text, and n is at least 1
pub record TakesPiece (old new : Option (List ℕ)) (n : ℕ) (text : List ℕ) : Type 0 where
  pub some : 0 < n
  pub bound : n ≤ length text
  pub bytes : Appends old new (take n text)

-- a part of the text's start, but not all of it, was written
pub record AppendsPart (old new : Option (List ℕ)) (text : List ℕ) : Type 0 where
  pub count : ℕ
  pub short : count < length text
  pub bytes : Appends old new (take count text)
