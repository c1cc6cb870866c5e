-- Fields as they are written.
use Rattle.std.specs.Prelude.{◌≡◌, ℕ, ◌==◌, false, List, [], ◌∷◌, ◌++◌, All}
use Rattle.retro_path.specs.Ascii.{nul}

-- a field may have any bytes but NUL
abbrev pub HasNoNul : List ℕ → Type 0
HasNoNul field = All (λ b. (b == nul) ≡ false) field

-- fields, with a NUL after each
abbrev pub written : List (List ℕ) → List ℕ
written [] = []
written (field ∷ fields) = field ++ nul ∷ written fields
