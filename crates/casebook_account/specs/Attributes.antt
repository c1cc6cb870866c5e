-- The modes and owners that paths were seen to have.
use Rattle.std.specs.Prelude.{ℕ, List, [], ◌∷◌, ◌++◌, Option, Some, None, flat_map}
use Rattle.retro_path.specs.Path.{PathValue}
use Rattle.casebook_spool.specs.declared.note.Note.{Note}
use Rattle.casebook_spool.specs.declared.note.Note.TheVariants as notes
use Rattle.casebook_typed.specs.Lines.{LineValue}
use Rattle.casebook_typed.specs.Looks.{ChangeValue}
use Rattle.casebook_watch.specs.declared.sight.Sight.{Sight}
use Rattle.casebook_account.specs.declared.attributes.SeenAttributes.{SeenAttributes}
use Rattle.casebook_account.specs.declared.machine_line.MachineLine.{MachineLine}

-- what is seen of a path after the line with a number; nothing, if nothing is there
abbrev pub sight_seen : ℕ → PathValue → Option Sight → List SeenAttributes
sight_seen line path None = []
sight_seen line path (Some sight) =
    record { line = line; path = path; kind = sight.kind; attributes = sight.attributes } ∷ []

-- what a note of the first look says of a path
abbrev pub note_seen : Note → List SeenAttributes
note_seen (notes.Sight change) = sight_seen 0 change.path change.sight
note_seen (notes.Holds holds) = []
note_seen (notes.Looked looked) = []

abbrev pub change_seen : ℕ → ChangeValue → List SeenAttributes
change_seen line change = sight_seen line change.path change.sight

-- what each line left, as lines were typed, by their numbers
abbrev pub lines_seen : List MachineLine → List LineValue → List SeenAttributes
lines_seen (line ∷ lines) (typed ∷ rest) =
    flat_map (change_seen line.number) typed.seen.changes ++ lines_seen lines rest
lines_seen _ _ = []

-- what the first look saw, and what each line left
abbrev pub attributes_seen : List Note → List MachineLine → List LineValue → List SeenAttributes
attributes_seen first lines typed = flat_map note_seen first ++ lines_seen lines typed
