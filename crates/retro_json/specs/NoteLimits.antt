-- The limits with which a log is read: the length of a file and of a variable's value in notes. A
-- recording of a script keeps these limits, and so does a recording that was read.
use Rattle.std.specs.Prelude.{ℕ, length, Bool, true, Option, Some, None, nat_le}
use Rattle.std.specs.List.{list_all}
use Rattle.retro_tree.specs.Node.{file_limit}
use Rattle.retro_tree.specs.Session.{value_limit}
use Rattle.retro_tree.specs.declared.answer.Answer.{Answer}
use Rattle.retro_tree.specs.declared.answer.Answer.TheVariants as answers
use Rattle.retro_tree.specs.declared.change.Change.{Change}
use Rattle.retro_tree.specs.declared.change.Change.TheVariants as changes
use Rattle.retro_tree.specs.declared.node.Node.{Node}
use Rattle.retro_tree.specs.declared.node.Node.TheVariants as nodes
use Rattle.retro_tree.specs.declared.note.Note.{Note}
use Rattle.retro_tree.specs.declared.note.Note.TheVariants.{Asked, Made}
use Rattle.retro_keep.specs.Recording.{RecordingValue}
use Rattle.retro_keep.specs.declared.noted.Noted.{Noted}
use Rattle.retro_json.specs.Shape.{Text}

abbrev pub node_fits : Node → Bool
node_fits nodes.Missing = true
node_fits nodes.Dir = true
node_fits (nodes.File bytes) = nat_le (length bytes) file_limit

abbrev pub value_fits : Text → Bool
value_fits value = nat_le (length value) value_limit

abbrev pub found_fits : Option Text → Bool
found_fits None = true
found_fits (Some value) = value_fits value

abbrev pub answer_fits : Answer → Bool
answer_fits (answers.Bytes node) = node_fits node
answer_fits (answers.Var value) = found_fits value
answer_fits _ = true

-- bytes that a file grows by have no limit of their own
abbrev pub change_fits : Change → Bool
change_fits (changes.Put path node) = node_fits node
change_fits (changes.SetVar sid name value) = value_fits value
change_fits _ = true

abbrev pub note_fits : Note → Bool
note_fits (Asked ask answer) = answer_fits answer
note_fits (Made change) = change_fits change

abbrev pub line_fits : ℕ × Noted → Bool
line_fits l = list_all note_fits l.1.notes

-- whether the notes of all lines keep the limits
unfoldable pub notes_fit : RecordingValue → Bool
notes_fit r = list_all line_fits r.lines
