-- Places of elements in lists.
use Rattle.std.proofs.Common.{◌≡◌, ◌∙◌, ℕ, ◌+◌, Bool, true, false, cond, ◌||◌, List, [], ◌∷◌, ◌++◌, length, refl, ap, arith}
use Rattle.std.proofs.Common.{Option, Some, None, is_some}
use Rattle.std.specs.List.{list_any, position_from}
use Rattle.std.specs.Option.{option_or}

at_first : (b : Bool) (i : ℕ) (x : Option ℕ) (y : Option ℕ) (z : Option ℕ)
    → x ≡ option_or y z → cond b (Some i) x ≡ option_or (cond b (Some i) y) z
at_first true i x y z e = refl
at_first false i x y z e = e

-- the place of an element of a list with one more
pub found-snoc : {A : Type 0} (p : A → Bool) (i : ℕ) (xs : List A) (x : A)
    → position_from p i (xs ++ x ∷ [])
    ≡ option_or (position_from p i xs) (cond (p x) (Some (i + length xs)) None)
found-snoc p i [] x = ap (λ n. cond (p x) (Some n) None) (let e : i ≡ i + 0 = omega arith in e)
found-snoc p i (y ∷ ys) x =
    at_first (p y) i _ _ _ (found-snoc p (i + 1) ys x
    ∙ ap (λ n. option_or (position_from p (i + 1) ys) (cond (p x) (Some n) None))
    (let e : i + 1 + length ys ≡ i + length (y ∷ ys) = omega arith in e))

some_or : (b : Bool) (i : ℕ) (x : Option ℕ) (c : Bool) → c ≡ is_some x → (b || c) ≡ is_some (cond b (Some i) x)
some_or true i x c e = refl
some_or false i x c e = e

-- an element is found exactly if there is one
pub any_found : {A : Type 0} (p : A → Bool) (i : ℕ) (xs : List A) → list_any p xs ≡ is_some (position_from p i xs)
any_found p i [] = refl
any_found p i (x ∷ xs) = some_or (p x) i _ _ (any_found p (i + 1) xs)
