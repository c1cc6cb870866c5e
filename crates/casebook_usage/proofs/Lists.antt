-- Tests of the elements of a list that a function gives.
use Rattle.std.proofs.Common.{◌≡◌, Bool, List, [], ◌∷◌, ◌||◌, map, refl, ap}
use Rattle.std.specs.List.{list_any}
use Rattle.std.proofs.lemmas.List.Folds.{list_all-map}

pub list_any_map : {X : Type 0} (p : X → Bool) → {Y : Type 0} (h : Y → X) (ys : List Y)
    → list_any p (map h ys) ≡ list_any (λ y. p (h y)) ys
list_any_map p h [] = refl
list_any_map p h (y ∷ ys) = ap (λ b. p (h y) || b) (list_any_map p h ys)

pub ruleset mapped = (list_any_map, list_all-map)
