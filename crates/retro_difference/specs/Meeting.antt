-- Notes that read or write a cell in which two states differ.
use Rattle.std.specs.Prelude.{◌≡◌, ◌≢◌, true, List}
use Rattle.retro_tree.specs.Cell.{value}
use Rattle.retro_tree.specs.Notes.{touches}
use Rattle.retro_tree.specs.declared.cell.Cell.{Cell}
use Rattle.retro_tree.specs.declared.note.Note.{Note}
use Rattle.retro_tree.specs.declared.state.State.{State}

-- the states differ in some cell that the notes read or write
abbrev pub Met : List Note → State → State → Type 0
Met notes s t = (c : Cell) × (touches notes c ≡ true) × (value c s ≢ value c t)
