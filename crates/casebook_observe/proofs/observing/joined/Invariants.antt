use Rattle.std.proofs.Common.{◌≡◌, ◌++◌, map}
use Rattle.casebook_spool.specs.declared.note.Note.TheVariants as notes
use Rattle.casebook_observe.proofs.observing.joined.Given as goal

abbrev pub invariant-loop-change : goal.invariant-loop-change
invariant-loop-change l =
    l.notes.items ++ map (λ change. notes.Sight change) l.change-iterator.rest.items
    ≡ map (λ change. notes.Sight change) l.fn.changes.items

abbrev pub invariant-loop-note : goal.invariant-loop-note
invariant-loop-note l =
    l.notes.items ++ l.note-iterator.rest.items ≡ map (λ change. notes.Sight change) l.fn.changes.items ++ l.fn.held.items

abbrev pub invariant-loop-looked : goal.invariant-loop-looked
invariant-loop-looked l =
    l.notes.items ++ map (λ looked. notes.Looked looked) l.looked-iterator.rest.items
    ≡ map (λ change. notes.Sight change) l.fn.changes.items ++ l.fn.held.items
    ++ map (λ looked. notes.Looked looked) l.fn.looked.items
