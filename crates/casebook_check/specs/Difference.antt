-- The first difference of two lists of notes.
use Rattle.std.specs.Prelude.{◌≡◌, ◌≢◌, ℕ, List, [], ◌∷◌, Option, Some, None, drop, take}
use Rattle.retro_tree.specs.declared.note.Note.{Note}

abbrev pub first_of : {A : Type 0} → List A → Option A
first_of [] = None
first_of (x ∷ xs) = Some x

-- the item at an index, or None if the list ends before it
abbrev pub item_at : {A : Type 0} → ℕ → List A → Option A
item_at index xs = first_of (drop index xs)

-- the notes before an index are the same, and those at it aren't, or one list ends there
pub record IsFirstDifference (one two : List Note) (index : ℕ) : Type 0 where
  pub same : take index one ≡ take index two
  pub otherwise : item_at index one ≢ item_at index two
