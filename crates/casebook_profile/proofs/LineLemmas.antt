-- The names of assignments.
use Rattle.std.proofs.Common.{◌≡◌, ◌∷◌, [], List, ap, map, refl}
use Rattle.retro_syntax.specs.View.{assignment_view}
use Rattle.retro_syntax.specs.declared.tree.Assignment.{Assignment}

pub same_names : (xs : List Assignment) → map (λ a. a.name) xs ≡ map (λ a. a.name) (map assignment_view xs)
same_names [] = refl
same_names (x ∷ xs) = ap (λ ns. x.name ∷ ns) (same_names xs)
