-- The lines of a file.
use Rattle.std.specs.Prelude.{◌≡◌, ℕ, ◌==◌, false, IsUtf8, List, [], ◌∷◌, if◌then◌else◌}
use Rattle.std.specs.List.{All, list_any}
use Rattle.retro_path.specs.Ascii.{newline, nul}

-- a byte before the lines of a text
abbrev pub grown : ℕ → List (List ℕ) → List (List ℕ)
grown b [] = (b ∷ []) ∷ []
grown b (line ∷ lines) = (b ∷ line) ∷ lines

-- the lines of a text, each with its newline. A last line may have none
abbrev pub lines_of : List ℕ → List (List ℕ)
lines_of [] = []
lines_of (b ∷ bytes) = if b == newline then (b ∷ []) ∷ lines_of bytes else grown b (lines_of bytes)

-- A file is text if it has no NUL and each of its lines is UTF-8.
pub record IsText (bytes : List ℕ) : Type 0 where
  pub no_nul : list_any (λ b. b == nul) bytes ≡ false
  pub utf8 : All IsUtf8 (lines_of bytes)
