-- The first state of a recording: the observed one, with the files from which stand-ins copy.
use Rattle.std.specs.Prelude.{ℕ, ◌+◌, List, [], ◌∷◌}
use Rattle.retro_tree.specs.State.{put_node}
use Rattle.retro_tree.specs.declared.node.Node.TheVariants.{Dir, File}
use Rattle.retro_tree.specs.declared.state.State.{State}
use Rattle.casebook_stand_in.specs.Effect.{observed}
use Rattle.casebook_stand_in.specs.Shelf.{shelf_of}
use Rattle.casebook_explain.specs.Places.{casebook, shelf_directory, shelf_path}
use Rattle.casebook_explain.specs.declared.seen_line.SeenLine.{SeenLine}

-- a state with files on the shelf of a line, numbered from `number` on
abbrev pub with_files : ℕ → ℕ → List (List ℕ) → State → State
with_files line number [] s = s
with_files line number (bytes ∷ files) s =
    with_files line (number + 1) files (put_node (shelf_path line number) (File bytes) s)

-- a state with the shelf of a line, in directories of its own; without files there is no shelf
abbrev pub with_shelf : ℕ → List (List ℕ) → State → State
with_shelf line [] s = s
with_shelf line (bytes ∷ files) s =
    with_files line 1 (bytes ∷ files)
    (put_node (shelf_directory line) Dir (put_node casebook Dir s))

-- A state with the shelves of lines, the first of which has the place `line`. `now` is the state
-- that was observed before them.
abbrev pub with_shelves : ℕ → List SeenLine → State → State → State
with_shelves line [] now s = s
with_shelves line (seen ∷ lines) now s =
    with_shelves (line + 1) lines (observed seen.effect now)
    (with_shelf line (shelf_of seen.effect now) s)
