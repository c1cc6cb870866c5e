-- Things with numbers.
use Rattle.std.specs.Prelude.{ℕ, ◌==◌, List, [], ◌∷◌, Option, Some, None, if◌then◌else◌}

-- the first of some things that has a number, or None if none has it
abbrev pub with_number : {X : Type 0} → (X → ℕ) → ℕ → List X → Option X
with_number number_at n [] = None
with_number number_at n (x ∷ xs) = if number_at x == n then Some x else with_number number_at n xs
