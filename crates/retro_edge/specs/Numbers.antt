-- Lists of numbers on a command line.
use Rattle.std.specs.Prelude.{ℕ, ◌==◌, List, Option}
use Rattle.std.specs.List.{slice_split}
use Rattle.retro_text.specs.Ascii.{comma}
use Rattle.retro_text.specs.Numbers.{number_in}
use Rattle.retro_edge.specs.Reads.{all_read}

-- the number of each text, or None if one is no number
abbrev pub numbers_of : List (List ℕ) → Option (List ℕ)
numbers_of texts = all_read number_in texts

-- the numbers of a list with single commas between them
abbrev pub numbers_in : List ℕ → Option (List ℕ)
numbers_in text = numbers_of (slice_split (λ b. b == comma) text)
