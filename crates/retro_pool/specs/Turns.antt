-- Which seat of a board took which job. A job is the number of its line, and seats have numbers:
-- the owner's is 0.
use Rattle.std.specs.Prelude.{◌≡◌, ◌⊎◌, ◌<◌, ◌==◌, if◌then◌else◌, ℕ, List, [], ◌∷◌, map}
use Rattle.std.specs.List.{AllByRecursion}

-- a seat, and the job that it took
abbrev pub Turn : Type 0
Turn = ℕ × ℕ

-- the jobs that were taken, in order
abbrev pub jobs_of : List Turn → List ℕ
jobs_of turns = map (λ t. t.1) turns

-- the jobs that a seat took, in order
abbrev pub taken_by : ℕ → List Turn → List ℕ
taken_by seat [] = []
taken_by seat (t ∷ turns) = if t.0 == seat then t.1 ∷ taken_by seat turns else taken_by seat turns

-- Each dealt job was taken once, by one of the first `seats` seats, and in the order of dealing.
-- What each of these seats took is what `list_of` says.
pub record IsShared (seats : ℕ) (dealt : List ℕ) (list_of : ℕ → List ℕ) : Type 0 where
  pub turns : List Turn
  pub jobs : jobs_of turns ≡ dealt
  pub within : AllByRecursion (λ t. t.0 < seats) turns
  pub lists : (seat : ℕ) → seat < seats → list_of seat ≡ taken_by seat turns

-- the first list is the second one without some of its items
abbrev pub IsSublist : List ℕ → List ℕ → Type 0
IsSublist xs [] = xs ≡ []
IsSublist xs (y ∷ ys) = ((rest : List ℕ) × (xs ≡ y ∷ rest) × IsSublist rest ys) ⊎ IsSublist xs ys
