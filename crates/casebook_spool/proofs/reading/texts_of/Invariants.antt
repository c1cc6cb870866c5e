use Rattle.std.proofs.Common.{◌≡◌, ◌++◌, drop, map}
use Rattle.casebook_rows.specs.Reading.{text_of}
use Rattle.casebook_spool.proofs.reading.texts_of.Given as goal

abbrev pub invariant-loop-field : goal.invariant-loop-field
invariant-loop-field l =
    map (λ text. text.items) l.texts.items ++ map text_of (map (λ field. field.now) (drop l.field-index l.fields))
    ≡ map text_of (map (λ field. field.now) l.fields)
