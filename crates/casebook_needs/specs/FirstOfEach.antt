-- The items of a list, each once.
use Rattle.std.specs.Prelude.{Bool, not, List, [], ◌∷◌}
use Rattle.std.specs.List.{filter}

-- the items of a list, each once, in the order in which they first occur
abbrev pub first_of_each : {A : Type 0} → (A → A → Bool) → List A → List A
first_of_each eq [] = []
first_of_each eq (x ∷ xs) = x ∷ filter (λ y. not (eq x y)) (first_of_each eq xs)
