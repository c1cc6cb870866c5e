-- What all items of a list pass.
use Rattle.std.proofs.Common.{◌≡◌, Bool, true, List, [], ◌∷◌, ◌++◌, flat_map, refl, ◌∙◌}
use Rattle.std.specs.List.{list_all}
use Rattle.std.proofs.lemmas.Bool.{and_from, and_parts}
use Rattle.std.proofs.lemmas.List.Folds.{list_all-append}

pub append_all : {X : Type 0} (p : X → Bool) (xs ys : List X) → list_all p xs ≡ true → list_all p ys ≡ true
    → list_all p (xs ++ ys) ≡ true
append_all p xs ys a b = list_all-append p xs ys ∙ and_from _ _ a b

pub flat_map_all : {X Y : Type 0} (p : Y → Bool) (q : X → Bool) (f : X → List Y) → ((x : X) → q x ≡ true → list_all p (f x) ≡ true)
    → (xs : List X) → list_all q xs ≡ true → list_all p (flat_map f xs) ≡ true
flat_map_all p q f each [] all = refl
flat_map_all p q f each (x ∷ xs) all =
    let both = and_parts (q x) (list_all q xs) all in
    append_all p (f x) (flat_map f xs) (each x both.0) (flat_map_all p q f each xs both.1)
