use Rattle.std.proofs.Common.{◌≡◌, ◌++◌, drop, map, string_bytes}
use Rattle.casebook_rows.specs.Rows.{tabbed}
use Rattle.casebook_rows.specs.Written.{escaped}
use Rattle.casebook_spool.proofs.writing.push_texts.Given as goal

abbrev pub invariant-loop-field : goal.invariant-loop-field
invariant-loop-field l =
    string_bytes l.row ++ tabbed (map escaped (map (λ field. field.now) (drop l.field-index l.fields)))
    ≡ string_bytes l.initial.row ++ tabbed (map escaped (map (λ field. field.now) l.fields))
