use Rattle.std.proofs.Common.{◌≡◌, ◌++◌, map, string_bytes}
use Rattle.casebook_spool.specs.Written.{listing_text, notes_text, sight_note, sights_notes}
use Rattle.casebook_spool.proofs.writing.sights_text.Given as goal

abbrev pub invariant-loop-path : goal.invariant-loop-path
invariant-loop-path l =
    string_bytes l.text ++ notes_text (map sight_note l.path-iterator)
    ≡ listing_text l.at (sights_notes l.sights)
