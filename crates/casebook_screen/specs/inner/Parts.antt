-- Lines of a diff, taken from the text that they are in.
use Rattle.std.specs.Prelude.{ℕ, ◌<◌, ◌≤◌, Bool, List, [], ◌∷◌, drop, if◌then◌else◌, length}
use Rattle.casebook_text.specs.declared.hunk.Hunk.{Hunk}

-- the first line of a text, or nothing if there is none
abbrev pub next_text : List (List ℕ) → List ℕ
next_text [] = []
next_text (line ∷ rest) = line

-- what is left of a text after a line of a diff, which may be in the text
abbrev pub after_line : Bool → List (List ℕ) → List (List ℕ)
after_line is_in rest = if is_in then drop 1 rest else rest

-- A part has some of these lines, and the numbers that it says can be counted.
pub record IsWithin (lines : List (List ℕ)) (part : Hunk) : Type 0 where
  pub some : part.from < part.to
  pub within : part.to ≤ length lines
  pub old : part.old.before < 0xffffffffffffffff
  pub new : part.new.before < 0xffffffffffffffff
