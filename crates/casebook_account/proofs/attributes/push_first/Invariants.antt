-- What was seen so far, and what the notes say that are left.
use Rattle.std.proofs.Common.{◌≡◌, ◌++◌, drop}
use Rattle.std.specs.Prelude.{flat_map}
use Rattle.casebook_account.specs.Attributes.{note_seen}
use Rattle.casebook_account.proofs.attributes.push_first.Given as goal

abbrev pub invariant-loop-note : goal.invariant-loop-note
invariant-loop-note l =
    l.seen.items ++ flat_map note_seen (drop l.note-index l.notes)
    ≡ l.fn.seen.items ++ flat_map note_seen l.notes
