-- Reading each of several texts.
use Rattle.std.specs.Prelude.{ℕ, List, [], ◌∷◌, Option, Some, option_and_then, option_map}

-- what each text is read as, or None if one can't be read
unfoldable pub all_read : {A : Type 0} → (List ℕ → Option A) → List (List ℕ) → Option (List A)
all_read read [] = Some []
all_read read (text ∷ texts) =
    option_and_then (λ x. option_map (λ xs. x ∷ xs) (all_read read texts)) (read text)
