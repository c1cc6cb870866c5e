-- An arm of an `if` is smaller than the `if`.
use Rattle.std.proofs.Common.{◌≡◌, ℕ, zero, suc, ◌+◌, ◌*◌, ◌<◌, ◌≤◌, arith, List, [], ◌∷◌, map, length, get_or}
use Rattle.std.proofs.Common.{Option, Some, None}
use Rattle.retro_syntax.specs.Tree.{Commands, Arms, fi, otherwise, elif}
use Rattle.retro_syntax.specs.Parsing.{arms_up_to}
use Rattle.retro_shell.specs.inner.Trees.{last_arm}
use Rattle.retro_shell.proofs.Sizes.{size, arms_size}

some_size : (a : Arms) → 1 ≤ arms_size a
some_size (fi c t) = omega arith
some_size (otherwise c t e) = omega arith
some_size (elif c t a) = omega arith

module _ {A : Type 0} where
  pub arm_smaller : (of : A → Commands × Commands) (xs : List A) (k : ℕ) (x : A) (a : Arms)
      → k < length xs → x ≡ get_or xs k x
      → 8 * (size (of x).0 + size (of x).1) + 9 < 8 * arms_size (arms_up_to (map of xs) a) + 2
  arm_smaller of [] k x a below is = absurd (omega (arith, below))
  arm_smaller of (y ∷ ys) zero x a below is = grind (arith, is, some_size (arms_up_to (map of ys) a))
  arm_smaller of (y ∷ ys) (suc k) x a below is = grind (arith, arm_smaller of ys k x a (omega (arith, below)) is)

  -- what is smaller than the last arm is smaller than the `if`
  pub last_arm_smaller : (of : A → Commands × Commands) (xs : List A) (a : Arms) (n : ℕ)
      → n < 8 * arms_size a + 2 → n < 8 * arms_size (arms_up_to (map of xs) a) + 2
  last_arm_smaller of [] a n h = h
  last_arm_smaller of (y ∷ ys) a n h = grind (arith, last_arm_smaller of ys a n h)

pub ending_arm : (c t : Commands) (o : Option Commands)
    → 8 * (size c + size t) + 9 < 8 * arms_size (last_arm c t o) + 2
ending_arm c t None = omega arith
ending_arm c t (Some e) = omega arith
