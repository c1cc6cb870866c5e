-- The sizes of trees. Each call of the interpreter is for a smaller tree, so the calls end.
use Rattle.std.proofs.Common.{◌≡◌, ℕ, zero, suc, ◌+◌, ◌*◌, ◌<◌, arith, Bool, List, [], ◌∷◌, map, length, get_or}
use Rattle.std.proofs.Common.{Option, Some, None}
use Rattle.retro_syntax.specs.Tree.{Commands, last, more, AndOr, end, chain, Pipeline, pipeline, Command, simples}
use Rattle.retro_syntax.specs.Tree.{conditional, loop, Arms, fi, otherwise, elif}
use Rattle.retro_syntax.specs.Parsing.{join, listed, arms_up_to}
use Rattle.retro_syntax.specs.declared.tree.Connector.{Connector}
use Rattle.retro_shell.specs.inner.Trees.{last_arm}

abbrev mutual
  pub size : Commands → ℕ
  size (last a closed) = 1 + and_or_size a
  size (more a c) = 1 + (and_or_size a + size c)

  pub and_or_size : AndOr → ℕ
  and_or_size (end p) = 1 + pipeline_size p
  and_or_size (chain p op a) = 1 + (pipeline_size p + and_or_size a)

  pub pipeline_size : Pipeline → ℕ
  pipeline_size (pipeline negated c) = 1 + command_size c

  pub command_size : Command → ℕ
  command_size (simples ss) = 1
  command_size (conditional a) = 1 + arms_size a
  command_size (loop name ws c) = 1 + size c

  pub arms_size : Arms → ℕ
  arms_size (fi c t) = 1 + (size c + size t)
  arms_size (otherwise c t e) = 1 + (size c + (size t + size e))
  arms_size (elif c t a) = 1 + (size c + (size t + arms_size a))

module _ {A : Type 0} where
  -- a pipeline of an and-or list
  pub joint_smaller : (of : A → Pipeline × Connector) (xs : List A) (k : ℕ) (x : A) (p : Pipeline)
      → k < length xs → x ≡ get_or xs k x
      → 8 * pipeline_size (of x).0 < 8 * and_or_size (join (map of xs) p)
  joint_smaller of [] k x p below is = absurd (omega (arith, below))
  joint_smaller of (y ∷ ys) zero x p below is = grind (arith, is)
  joint_smaller of (y ∷ ys) (suc k) x p below is =
      grind (arith, joint_smaller of ys k x p (omega (arith, below)) is)

  pub last_joint_smaller : (of : A → Pipeline × Connector) (xs : List A) (p : Pipeline)
      → 8 * pipeline_size p < 8 * and_or_size (join (map of xs) p)
  last_joint_smaller of [] p = omega arith
  last_joint_smaller of (y ∷ ys) p = grind (arith, last_joint_smaller of ys p)

  -- an and-or list of a list
  pub listed_smaller : (of : A → AndOr) (xs : List A) (k : ℕ) (x : A) (a : AndOr) (b : Bool)
      → k < length xs → x ≡ get_or xs k x
      → 8 * and_or_size (of x) < 8 * size (listed (map of xs) a b)
  listed_smaller of [] k x a b below is = absurd (omega (arith, below))
  listed_smaller of (y ∷ ys) zero x a b below is = grind (arith, is)
  listed_smaller of (y ∷ ys) (suc k) x a b below is =
      grind (arith, listed_smaller of ys k x a b (omega (arith, below)) is)

  pub last_listed_smaller : (of : A → AndOr) (xs : List A) (a : AndOr) (b : Bool)
      → 8 * and_or_size a < 8 * size (listed (map of xs) a b)
  last_listed_smaller of [] a b = omega arith
  last_listed_smaller of (y ∷ ys) a b = grind (arith, last_listed_smaller of ys a b)

  -- a list of an `if`
  pub condition_smaller : (of : A → Commands × Commands) (xs : List A) (k : ℕ) (x : A) (a : Arms)
      → k < length xs → x ≡ get_or xs k x
      → 8 * size (of x).0 < 8 * arms_size (arms_up_to (map of xs) a) + 1
  condition_smaller of [] k x a below is = absurd (omega (arith, below))
  condition_smaller of (y ∷ ys) zero x a below is = grind (arith, is)
  condition_smaller of (y ∷ ys) (suc k) x a below is =
      grind (arith, condition_smaller of ys k x a (omega (arith, below)) is)

  pub consequence_smaller : (of : A → Commands × Commands) (xs : List A) (k : ℕ) (x : A) (a : Arms)
      → k < length xs → x ≡ get_or xs k x
      → 8 * size (of x).1 < 8 * arms_size (arms_up_to (map of xs) a) + 1
  consequence_smaller of [] k x a below is = absurd (omega (arith, below))
  consequence_smaller of (y ∷ ys) zero x a below is = grind (arith, is)
  consequence_smaller of (y ∷ ys) (suc k) x a below is =
      grind (arith, consequence_smaller of ys k x a (omega (arith, below)) is)

  pub last_arm_smaller : (of : A → Commands × Commands) (xs : List A) (a : Arms) (n : ℕ)
      → 8 * n < 8 * arms_size a + 1 → 8 * n < 8 * arms_size (arms_up_to (map of xs) a) + 1
  last_arm_smaller of [] a n h = h
  last_arm_smaller of (y ∷ ys) a n h = grind (arith, last_arm_smaller of ys a n h)

pub ending_condition : (c t : Commands) (o : Option Commands) → 8 * size c < 8 * arms_size (last_arm c t o) + 1
ending_condition c t None = omega arith
ending_condition c t (Some e) = omega arith

pub ending_consequence : (c t : Commands) (o : Option Commands) → 8 * size t < 8 * arms_size (last_arm c t o) + 1
ending_consequence c t None = omega arith
ending_consequence c t (Some e) = omega arith
