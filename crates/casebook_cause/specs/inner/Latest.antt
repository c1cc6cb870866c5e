-- The last line of some that isn't alike.
use Rattle.std.specs.Prelude.{◌≡◌, ◌⊎◌, ◌≤◌, ◌<◌, ℕ, nat_lt, Bool, true, Option, Some, None, IfSome}
use Rattle.std.specs.Prelude.{if◌then◌else◌}

-- a number is at most one that was found
abbrev pub IsAtMost : ℕ → Option ℕ → Type 0
IsAtMost k None = ⊥
IsAtMost k (Some m) = k ≤ m

-- The number found is below n and isn't alike. Each number below n that is among some is alike or
-- at most the one found.
pub record IsLatest (Alike : ℕ → Type 0) (n : ℕ) (among : ℕ → Bool) (found : Option ℕ) : Type 0 where
  pub sound : IfSome found (λ m. (m < n) × ¬ (Alike m))
  pub complete : (k : ℕ) → k < n → among k ≡ true → Alike k ⊎ IsAtMost k found

-- the later of two lines
abbrev pub later : Option ℕ → Option ℕ → Option ℕ
later None two = two
later (Some m) None = Some m
later (Some m) (Some k) = if nat_lt m k then Some k else Some m
