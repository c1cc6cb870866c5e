use Rattle.std.proofs.Common.{◌≡◌, ◌++◌, drop, string_bytes}
use Rattle.casebook_spool.specs.Written.{notes_text}
use Rattle.casebook_spool.proofs.writing.push_notes.Given as goal

abbrev pub invariant-loop-note : goal.invariant-loop-note
invariant-loop-note l =
    string_bytes l.text ++ notes_text (drop l.note-index l.notes)
    ≡ string_bytes l.initial.text ++ notes_text l.notes
