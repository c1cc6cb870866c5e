-- The notes of a move, the newest first: which queries are made, and in which order.
use Rattle.std.specs.Prelude.{◌≡◌, ℕ, false, List, [], ◌∷◌, ◌++◌, map, Some}
use Rattle.retro_tree.specs.Path.{PathValue}
use Rattle.retro_tree.specs.Node.{is_dir}
use Rattle.retro_tree.specs.declared.answer.Answer.TheVariants as answers
use Rattle.retro_tree.specs.declared.ask.Ask.TheVariants as asks
use Rattle.retro_tree.specs.declared.change.Change.TheVariants.{Put}
use Rattle.retro_tree.specs.declared.node.Node.{Node}
use Rattle.retro_tree.specs.declared.node.Node.TheVariants.{Missing, Dir, File}
use Rattle.retro_tree.specs.declared.note.Note.{Note}
use Rattle.retro_tree.specs.declared.note.Note.TheVariants.{Asked, Made}

-- the old and the new paths of the children with these names
abbrev pub child_pairs : PathValue → PathValue → List (List ℕ) → List (PathValue × PathValue)
child_pairs p q names = map (λ n. (p ++ n ∷ [], q ++ n ∷ [])) names

-- Notes to which the copies of some paths to others, in order, were added, with the old paths of
-- all that was put. The node of a path is queried, and is put. If it is a directory, its names are
-- queried before it is put, and its children are copied after it.
pub data CopyNotes : List (PathValue × PathValue) → List PathValue → List Note → List Note → Type 0 where
  done : {notes : List Note} → CopyNotes [] [] notes notes
  leaf : {p q : PathValue} {todo : List (PathValue × PathValue)} {paths : List PathValue} {old new : List Note}
      (node : Node) → is_dir node ≡ false
      → CopyNotes todo paths (Made (Put q node) ∷ Asked (asks.Bytes p) (answers.Bytes node) ∷ old) new
      → CopyNotes ((p, q) ∷ todo) (p ∷ paths) old new
  dir : {p q : PathValue} {todo : List (PathValue × PathValue)} {more paths all : List PathValue}
      {old mid new : List Note} (names : List (List ℕ))
      → CopyNotes (child_pairs p q names) more (Made (Put q Dir) ∷ Asked (asks.Names p) (answers.Names (Some names))
      ∷ Asked (asks.Bytes p) (answers.Bytes Dir) ∷ old) mid
      → CopyNotes todo paths mid new → all ≡ more ++ paths
      → CopyNotes ((p, q) ∷ todo) (p ∷ all) old new

-- The notes of the copy of a directory, after its node was queried.
pub record DirNotes (p q : PathValue) (paths : List PathValue) (old new : List Note) : Type 0 where
  pub names : List (List ℕ)
  pub more : List PathValue
  pub is : paths ≡ p ∷ more
  pub copies : CopyNotes (child_pairs p q names) more
      (Made (Put q Dir) ∷ Asked (asks.Names p) (answers.Names (Some names)) ∷ old) new

-- The notes of the copy of a node, after the node was queried.
abbrev pub NodeNotes : PathValue → PathValue → Node → List PathValue → List Note → List Note → Type 0
NodeNotes p q Dir paths old new = DirNotes p q paths old new
NodeNotes p q Missing paths old new = (paths ≡ p ∷ []) × (new ≡ Made (Put q Missing) ∷ old)
NodeNotes p q (File bytes) paths old new = (paths ≡ p ∷ []) × (new ≡ Made (Put q (File bytes)) ∷ old)

-- notes to which the removals of some paths were added, from the last path to the first
abbrev pub with_removals : List PathValue → List Note → List Note
with_removals paths notes = map (λ k. Made (Put k Missing)) paths ++ notes

-- The notes of the move of a directory: all is copied, and then the old paths are removed.
pub record MoveNotes (p q : PathValue) (old new : List Note) : Type 0 where
  pub paths : List PathValue
  pub copied : List Note
  pub copy : DirNotes p q paths old copied
  pub removals : new ≡ with_removals paths copied
