-- The items of a list, each once.
use Rattle.std.specs.Prelude.{Bool, not, List, [], ◌∷◌, ◌++◌, Option, Some, None, if◌then◌else◌}
use Rattle.std.specs.List.{filter, list_any}

-- the items of a list, each once, in the order in which they first occur
abbrev pub first_of_each : {A : Type 0} → (A → A → Bool) → List A → List A
first_of_each eq [] = []
first_of_each eq (x ∷ xs) = x ∷ filter (λ y. not (eq x y)) (first_of_each eq xs)

-- a list with an item after it, unless the list has it
abbrev pub with_item : {A : Type 0} → (A → A → Bool) → List A → A → List A
with_item eq xs x = if list_any (λ y. eq y x) xs then xs else xs ++ x ∷ []

-- a list with an item after it, if there is an item and the list doesn't have it
abbrev pub with_found : {A : Type 0} → (A → A → Bool) → List A → Option A → List A
with_found eq xs None = xs
with_found eq xs (Some x) = with_item eq xs x
