use Rattle.std.proofs.Common.{sym, ◌∙◌}
use Rattle.retro_keep.specs.Recording.{are_own}
use Rattle.retro_keep.proofs.Owning.{own_ends, own_next, own_stops}
use Rattle.retro_keep.proofs.requirements.are_notes_own.Goals as goal

pub returns-then-not-is_note_own : goal.returns-then-not-is_note_own
returns-then-not-is_note_own c =
    own_stops c.args.sid c.as_slice-note-items.result.now c.args.notes.now c.as_slice-note-items.ensures
    c.loop-note.note-index (are_own c.args.sid c.args.notes.now) c.loop-note.invariant c.note-item.result
    c.loop-note-test.true c.note-item.is (sym c.is_note_own.ensures ∙ c.if-not-is_note_own.true)

pub loop-note-preserved : goal.loop-note-preserved
loop-note-preserved c =
    own_next c.args.sid c.as_slice-note-items.result.now c.args.notes.now c.as_slice-note-items.ensures
    c.loop-note.note-index (are_own c.args.sid c.args.notes.now) c.loop-note.invariant c.note-item.result
    c.loop-note-test.true c.note-item.is (sym c.is_note_own.ensures ∙ c.if-not-is_note_own.false)

pub returns : goal.returns
returns c =
    own_ends c.args.sid c.as_slice-note-items.result.now c.args.notes.now c.as_slice-note-items.ensures
    c.loop-note.note-index (are_own c.args.sid c.args.notes.now) c.loop-note.invariant c.loop-note-test.false
