-- Whether the changes of a log are lawful, each in the state that it changes.
use Rattle.std.specs.Prelude.{ℕ, Bool, true, not, ◌&&◌, List, [], ◌∷◌}
use Rattle.retro_tree.specs.Change.{apply, grows_dir, has_its_session}
use Rattle.retro_tree.specs.Lawful.{is_lawful}
use Rattle.retro_tree.specs.Notes.{after}
use Rattle.retro_tree.specs.declared.change.Change.{Change}
use Rattle.retro_tree.specs.declared.note.Note.{Note}
use Rattle.retro_tree.specs.declared.note.Note.TheVariants.{Asked, Made}
use Rattle.retro_tree.specs.declared.state.State.{State}
use Rattle.retro_keep.specs.declared.noted.Noted.{Noted}

-- whether a change is lawful: it grows no directory, its session exists, and the state after it is
-- lawful
abbrev pub is_lawful_change : Change → State → Bool
is_lawful_change c s = not (grows_dir c s) && (has_its_session c s && is_lawful (apply c s))

-- whether each change of notes is lawful where it is made
abbrev pub are_allowed : List Note → State → Bool
are_allowed [] s = true
are_allowed (Asked a r ∷ notes) s = are_allowed notes s
are_allowed (Made c ∷ notes) s = is_lawful_change c s && are_allowed notes (apply c s)

-- whether each change of each line is lawful where it is made, from a state on
abbrev pub are_lines_allowed : List (ℕ × Noted) → State → Bool
are_lines_allowed [] s = true
are_lines_allowed (l ∷ lines) s = are_allowed l.1.notes s && are_lines_allowed lines (after l.1.notes s)
