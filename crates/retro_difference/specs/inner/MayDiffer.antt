-- The cells in which a line may make two states differ.
use Rattle.std.specs.Prelude.{Bool, false, ◌||◌, List, Option, None, Some}
use Rattle.std.specs.Option.{option_copied}
use Rattle.retro_tree.specs.Notes.{changes}
use Rattle.retro_tree.specs.declared.cell.Cell.{Cell}
use Rattle.retro_tree.specs.declared.note.Note.{Note}
use Rattle.retro_difference.specs.declared.line_run.LineRun.{LineRun}

-- whether a line may do so, by its notes in both states
abbrev pub may_change : List Note → Option (List Note) → Cell → Bool
may_change recorded None c = false
may_change recorded (Some chosen) c = changes recorded c || changes chosen c

abbrev pub may_differ : LineRun → Cell → Bool
may_differ line = may_change line.recorded.now (option_copied line.chosen)
