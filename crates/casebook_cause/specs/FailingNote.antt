-- The first note that doesn't hold in a state.
use Rattle.std.specs.Prelude.{◌≢◌, ℕ, List, [], ◌∷◌, take, drop}
use Rattle.retro_tree.specs.Ask.{answer}
use Rattle.retro_tree.specs.Notes.{after, Holds}
use Rattle.retro_tree.specs.declared.note.Note.{Note}
use Rattle.retro_tree.specs.declared.note.Note.TheVariants.{Asked, Made}
use Rattle.retro_tree.specs.declared.state.State.{State}

-- the first of some notes is a query that has another answer in a state than the noted one
abbrev pub StartsWrong : List Note → State → Type 0
StartsWrong [] s = ⊥
StartsWrong (Asked a r ∷ notes) s = answer a s ≢ r
StartsWrong (Made c ∷ notes) s = ⊥

-- The notes before an index hold in a state. The note at the index is a query that has another
-- answer in the state after their changes.
pub record IsFirstFailing (index : ℕ) (notes : List Note) (s : State) : Type 0 where
  pub before : Holds (take index notes) s
  pub fails : StartsWrong (drop index notes) (after (take index notes) s)
