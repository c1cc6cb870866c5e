use Rattle.retro_value.specs.Borrowed.{value_data}
use Rattle.retro_json.specs.NotesPart.{note_of}
use Rattle.retro_json.specs.ReadsAs.{seen}
use Rattle.retro_json.proofs.Worst.{validating_goes_on, validating_done}
use Rattle.retro_json.proofs.reading.notes.read_items.Goals as goal

pub loop-item-preserved : goal.loop-item-preserved
loop-item-preserved c =
    validating_goes_on (note_of c.args.sid) value_data (seen (λ v. v.items) c.loop-item.notes)
    (seen (λ v. v.items) c.in_ok-notes.notes) c.args.items.now c.loop-item.item-index _ c.item-item.result
    c.in_ok-note.note c.loop-item-test.true c.item-item.is
    c.in_ok-note.ensures c.in_ok-notes.ensures c.loop-item.invariant

pub returns : goal.returns
returns c =
    validating_done (note_of c.args.sid) value_data (seen (λ v. v.items) c.loop-item.notes) c.args.items.now
    c.loop-item.item-index c.loop-item-test.false c.loop-item.invariant
