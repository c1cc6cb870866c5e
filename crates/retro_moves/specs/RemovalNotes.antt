-- The notes of a removal, the newest first: which queries are made, and in which order.
use Rattle.std.specs.Prelude.{ℕ, List, [], ◌∷◌, ◌++◌, map, Some}
use Rattle.retro_tree.specs.Path.{PathValue}
use Rattle.retro_tree.specs.declared.answer.Answer.TheVariants as answers
use Rattle.retro_tree.specs.declared.ask.Ask.TheVariants as asks
use Rattle.retro_tree.specs.declared.change.Change.TheVariants.{Put}
use Rattle.retro_tree.specs.declared.kind.Kind.TheVariants as kinds
use Rattle.retro_tree.specs.declared.node.Node.TheVariants.{Missing}
use Rattle.retro_tree.specs.declared.note.Note.{Note}
use Rattle.retro_tree.specs.declared.note.Note.TheVariants.{Asked, Made}

-- the children of a path with these names
abbrev pub children : PathValue → List (List ℕ) → List PathValue
children p names = map (λ n. p ++ n ∷ []) names

-- Notes to which the removals of some paths, in order, were added. Of a missing path only the kind
-- is queried. A file is removed after its kind was queried. Of a directory the kind and the names
-- are queried, its children are removed, and then the directory is removed.
pub data RemovalNotes : List PathValue → List Note → List Note → Type 0 where
  done : {notes : List Note} → RemovalNotes [] notes notes
  missing : {p : PathValue} {paths : List PathValue} {old new : List Note}
      → RemovalNotes paths (Asked (asks.Kind p) (answers.Kind kinds.Missing) ∷ old) new
      → RemovalNotes (p ∷ paths) old new
  file : {p : PathValue} {paths : List PathValue} {old new : List Note}
      → RemovalNotes paths
      (Made (Put p Missing) ∷ Asked (asks.Kind p) (answers.Kind kinds.File) ∷ old) new
      → RemovalNotes (p ∷ paths) old new
  dir : {p : PathValue} {paths : List PathValue} {old mid new : List Note} (names : List (List ℕ))
      → RemovalNotes (children p names)
      (Asked (asks.Names p) (answers.Names (Some names)) ∷ Asked (asks.Kind p) (answers.Kind kinds.Dir) ∷ old) mid
      → RemovalNotes paths (Made (Put p Missing) ∷ mid) new
      → RemovalNotes (p ∷ paths) old new
