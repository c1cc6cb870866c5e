use Rattle.retro_value.specs.Borrowed.{value_data}
use Rattle.retro_json.specs.NotesPart.{note_of}
use Rattle.retro_json.specs.ReadsAs.{seen}
use Rattle.retro_json.proofs.Worst.{IsValidatedTo}
use Rattle.retro_json.proofs.reading.notes.read_items.Given as goal

abbrev pub invariant-loop-item : goal.invariant-loop-item
invariant-loop-item l = IsValidatedTo (note_of l.sid) value_data (seen (λ v. v.items) l.notes) l.items l.item-index
