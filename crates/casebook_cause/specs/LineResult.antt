-- Results of lines.
use Rattle.std.specs.Prelude.{◌≡◌, List, [], ◌∷◌}
use Rattle.retro_tree.specs.declared.change.Change.{Change}
use Rattle.retro_tree.specs.declared.note.Note.{Note}
use Rattle.retro_tree.specs.declared.note.Note.TheVariants.{Asked, Made}
use Rattle.retro_keep.specs.declared.noted.Noted.{Noted}

-- the changes of notes, in order
abbrev pub changes_in : List Note → List Change
changes_in [] = []
changes_in (Asked a r ∷ notes) = changes_in notes
changes_in (Made c ∷ notes) = c ∷ changes_in notes

-- Two runs of a line have the same result if they print the same and make the same changes, in the
-- same order.
pub record HasSameResult (old new : Noted) : Type 0 where
  pub output : old.output ≡ new.output
  pub changes : changes_in old.notes ≡ changes_in new.notes
