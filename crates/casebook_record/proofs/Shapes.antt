-- A list by its items.
use Rattle.std.proofs.Common.{◌≡◌, ◌<◌, ◌≤◌, arith, refl, map, get_or, length, List, [], ◌∷◌}

pub nine : {A B : Type 0} (f : A → B) (xs : List A) (d : A) → 9 ≤ length xs → length xs < 10
    → map f xs ≡ f (get_or xs 0 d) ∷ f (get_or xs 1 d) ∷ f (get_or xs 2 d) ∷ f (get_or xs 3 d)
    ∷ f (get_or xs 4 d) ∷ f (get_or xs 5 d) ∷ f (get_or xs 6 d) ∷ f (get_or xs 7 d)
    ∷ f (get_or xs 8 d) ∷ []
nine f (a ∷ b ∷ c ∷ d ∷ e ∷ g ∷ h ∷ i ∷ j ∷ []) z lo hi = refl
nine f (a ∷ b ∷ c ∷ d ∷ e ∷ g ∷ h ∷ i ∷ j ∷ k ∷ more) z lo hi = absurd (omega (arith, hi))
nine f (a ∷ b ∷ c ∷ d ∷ e ∷ g ∷ h ∷ i ∷ []) z lo hi = absurd (omega (arith, lo))
nine f (a ∷ b ∷ c ∷ d ∷ e ∷ g ∷ h ∷ []) z lo hi = absurd (omega (arith, lo))
nine f (a ∷ b ∷ c ∷ d ∷ e ∷ g ∷ []) z lo hi = absurd (omega (arith, lo))
nine f (a ∷ b ∷ c ∷ d ∷ e ∷ []) z lo hi = absurd (omega (arith, lo))
nine f (a ∷ b ∷ c ∷ d ∷ []) z lo hi = absurd (omega (arith, lo))
nine f (a ∷ b ∷ c ∷ []) z lo hi = absurd (omega (arith, lo))
nine f (a ∷ b ∷ []) z lo hi = absurd (omega (arith, lo))
nine f (a ∷ []) z lo hi = absurd (omega (arith, lo))
nine f [] z lo hi = absurd (omega (arith, lo))
