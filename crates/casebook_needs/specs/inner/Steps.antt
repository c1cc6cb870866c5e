-- How a list in which each query is once grows.
use Rattle.std.specs.Prelude.{Bool, List, [], ◌∷◌, ◌++◌, fold, if◌then◌else◌}
use Rattle.std.specs.List.{list_any}

-- a list with an item after it, unless the list has it
abbrev pub with_item : {A : Type 0} → (A → A → Bool) → List A → A → List A
with_item eq xs x = if list_any (λ y. eq y x) xs then xs else xs ++ x ∷ []

-- a list with each of some items after it, unless the list has it then
abbrev pub with_items : {A : Type 0} → (A → A → Bool) → List A → List A → List A
with_items eq xs ys = fold (with_item eq) xs ys
