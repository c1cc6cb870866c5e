use Rattle.std.proofs.Common.{◌≡◌, ◌++◌, drop, map}
use Rattle.std.specs.List.{list_all}
use Rattle.serde_json.specs.View.{view}
use Rattle.retro_json.specs.NoteValues.{note_data}
use Rattle.retro_json.specs.Typed.{note_typed}
use Rattle.retro_json.proofs.writing.notes.notes_value.Given as goal

abbrev pub invariant-loop-note : goal.invariant-loop-note
invariant-loop-note l =
    (map view l.items.items ++ map note_data (drop l.note-index l.notes) ≡ map note_data l.notes) ×
    (list_all note_typed l.notes ≡ list_all note_typed (drop l.note-index l.notes))
