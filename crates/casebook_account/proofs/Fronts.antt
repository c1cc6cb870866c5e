-- Fronts of lists: how long they are.
use Rattle.std.proofs.Common.{◌≡◌, ◌+◌, ◌∷◌, Bool, true, false, List, cond, ap}
use Rattle.std.specs.List.{prefix_len}

pub one_passes : {X : Type 0} (p : X → Bool) (x : X) (xs : List X) → p x ≡ true
    → prefix_len p (x ∷ xs) ≡ 1 + prefix_len p xs
one_passes p x xs is = ap (λ b. cond b (1 + prefix_len p xs) 0) is

pub none_passes : {X : Type 0} (p : X → Bool) (x : X) (xs : List X) → p x ≡ false → prefix_len p (x ∷ xs) ≡ 0
none_passes p x xs is = ap (λ b. cond b (1 + prefix_len p xs) 0) is

pub ruleset counting = (one_passes, none_passes)
