-- The notes so far, and those that are left.
use Rattle.std.proofs.Common.{◌≡◌, ◌++◌, drop, map}
use Rattle.casebook_needs.specs.Needs.{note_of}
use Rattle.casebook_explain.proofs.noting.with_needs.Given as goal

abbrev pub invariant-loop-need : goal.invariant-loop-need
invariant-loop-need l =
    l.notes.items ++ map note_of l.need-iterator.rest.items ≡ map note_of l.fn.needs.items

abbrev pub invariant-loop-note : goal.invariant-loop-note
invariant-loop-note l =
    l.notes.items ++ drop l.note-index l.note-items ≡ l.initial.notes.items ++ l.note-items
